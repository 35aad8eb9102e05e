use Rattle.std.proofs.Common.{rules, ◌≡◌, ◌≤◌, Some, option_map, string_bytes, codes, String, Global, refl, sym, ap, subst, ◌∙◌}
use Rattle.std.proofs.lemmas.Str.{IsUtf8-string_bytes}
use Rattle.serde_json.specs.Data.{Data, Members, depth, object, string}
use Rattle.serde_json.specs.Find.{get_member}
use Rattle.serde_json.specs.Read.{max_depth}
use Rattle.serde_json.specs.View.{members_view, view}
use Rattle.serde_json.specs.declared.value.Value.{the_lemmas}
use Rattle.serde_json.specs.declared.value.Value as value
use Rattle.serde_json.proofs.Views.{view-lookup}
use Rattle.graphql_lines.proofs.Members.{others_stay, taken_apart}
use Rattle.graphql_stores.specs.PlainLines.{depth_of, members_of_plain}
use Rattle.graphql_stores.proofs.LineOfPlain.{asks-plain, on-some, plain-nests}
use Rattle.graphql_stores.proofs.plain_lines.line_of_members.Goals as goal

view-String : (s : String Global) → view (value.String s) ≡ string (string_bytes s)
view-String s = search (rules, the_lemmas)

pub returns-in-Ok : goal.returns-in-Ok
returns-in-Ok c =
    let ms : Members = members_view c.args.members.entries in
    let d : Data = object ms in
    let plain = string_bytes c.args.printed.text in
    let names = c.args.printed.used.keys in
    let query = string_bytes c.in-Some-String._query in
    let name = option_map view c.remove-name.result in
    let given = option_map view c.remove-given.result in
    let variables = option_map view c.used_values-variables.result in
    let taken = taken_apart d ms (members_view c.remove.new.self.entries) (members_view c.remove-name.new.self.entries)
    (option_map view c.remove.result) name given refl
    (ap (option_map view) c.remove.ensures.value ∙ view-lookup (codes "query") c.args.members.entries)
    (λ other apart. ap (λ es. get_member other (members_view es)) c.remove.ensures.entries
    ∙ others_stay (codes "query") other apart c.args.members.entries)
    (ap (option_map view) c.remove-name.ensures.value ∙ view-lookup (codes "operationName") c.remove.new.self.entries)
    (λ other apart. ap (λ es. get_member other (members_view es)) c.remove-name.ensures.entries
    ∙ others_stay (codes "operationName") other apart c.remove.new.self.entries)
    (ap (option_map view) c.remove-given.ensures.value ∙ view-lookup (codes "variables") c.remove-name.new.self.entries) in
    let here : option_map view c.remove.result ≡ Some (string query) =
    ap (option_map view) c.in-Some-String.is ∙ ap (λ v. Some (view v)) c.in-Some-String.field-0-is
    ∙ ap Some (view-String c.in-Some-String._query) in
    on-some c.text_of_members.result _ _
    (λ key reads within.
    let less : depth_of variables ≤ depth_of (get_member (codes "variables") ms) =
    subst (λ o. depth_of variables ≤ depth_of o) (sym taken.2) c.used_values-variables.ensures.nests in
    let deep : depth (object (members_of_plain plain name variables)) ≤ max_depth =
    subst (λ n. depth (object (members_of_plain plain n variables)) ≤ max_depth) taken.1
    (plain-nests plain ms variables less within) in
    let asked : members_view c.in-Ok.asked.entries ≡ members_of_plain plain name variables = c.in-Ok.ensures in
    asks-plain plain name variables d query names given (IsUtf8-string_bytes c.in-Some-String._query) (taken.0 ∙ here)
    taken.1 taken.2 c.used_values-variables.ensures.values (string_bytes key)
    (reads (subst (λ m. depth (object m) ≤ max_depth) (sym asked) deep) ∙ ap (λ m. Some (object m)) asked))
    c.text_of_members.ensures
