use Rattle.std.proofs.Common.{rules, arith, ◌≡◌, ◌≤◌, Some, [], refl, sym, ap, subst, ◌∙◌, string_bytes}
use Rattle.std.specs.List.{filter}
use Rattle.std.proofs.lemmas.Map.Made.{filter_same_pairs}
use Rattle.serde_json.specs.Data.{depth, object}
use Rattle.serde_json.specs.View.{members_view, view}
use Rattle.serde_json.proofs.Views.{view-Object}
use Rattle.graphql_names.specs.Names.{is_one_of}
use Rattle.graphql_lines.specs.Request.{variables_in}
use Rattle.graphql_stores.specs.Stored.{members_named}
use Rattle.graphql_stores.proofs.KeptMembers.{empty-is, kept-nests, kept-view}
use Rattle.graphql_stores.proofs.plain_lines.used_members.Goals as goal

pub returns-then-is_empty-clause-values : goal.returns-then-is_empty-clause-values
returns-then-is_empty-clause-values c =
    let names = c.args.printed.now.used.keys in
    let filtered : c.retain.new.self.entries ≡ filter (λ e. is_one_of names (string_bytes e.0)) c.args.members.entries =
    filter_same_pairs _ (λ e. is_one_of names (string_bytes e.0)) _ (λ k v b w f' t. search rules) _ _ c.retain.ensures.filtered in
    let none : c.retain.new.self.entries ≡ [] = empty-is c.retain.new.self.entries (c.if-is_empty.ensures.0 refl) in
    ap (λ es. Some (members_view es)) (sym none ∙ filtered) ∙ ap Some (kept-view names c.args.members.entries)

pub returns-clause-values : goal.returns-clause-values
returns-clause-values c =
    let names = c.args.printed.now.used.keys in
    let filtered : c.retain.new.self.entries ≡ filter (λ e. is_one_of names (string_bytes e.0)) c.args.members.entries =
    filter_same_pairs _ (λ e. is_one_of names (string_bytes e.0)) _ (λ k v b w f' t. search rules) _ _ c.retain.ensures.filtered in
    ap (λ d. variables_in (Some d)) (view-Object c.retain.new.self)
    ∙ ap (λ es. Some (members_view es)) filtered ∙ ap Some (kept-view names c.args.members.entries)

pub returns-clause-nests : goal.returns-clause-nests
returns-clause-nests c =
    let names = c.args.printed.now.used.keys in
    let ms = members_view c.args.members.entries in
    let filtered : c.retain.new.self.entries ≡ filter (λ e. is_one_of names (string_bytes e.0)) c.args.members.entries =
    filter_same_pairs _ (λ e. is_one_of names (string_bytes e.0)) _ (λ k v b w f' t. search rules) _ _ c.retain.ensures.filtered in
    let kept : members_view c.retain.new.self.entries ≡ members_named names ms =
    ap members_view filtered ∙ kept-view names c.args.members.entries in
    subst (λ d. depth d ≤ depth (object ms)) (sym (view-Object c.retain.new.self))
    (subst (λ k. depth (object k) ≤ depth (object ms)) (sym kept) (omega (arith, kept-nests names ms)))
