use Rattle.std.proofs.Common.{◌∷◌, [], sym, ◌∙◌}
use Rattle.graphql_rules_document.specs.Named.{fragment_names}
use Rattle.graphql_rules_document.specs.Searches.{Marks}
use Rattle.graphql_rules_document.proofs.MarkLemmas.{marked_last, marked_none, not_found, on_ok}
use Rattle.graphql_rules_document.proofs.reached_fragments.ReachedFragments.mark_named.Goals as goal

pub returns-then-is_reached : goal.returns-then-is_reached
returns-then-is_reached c =
    let old = c.args.self.now in
    marked_last (fragment_names c.args.index.now.fragments.now) c.args.name.now old.marks old.waiting c.in-Some.last (sym c.in-Some.ensures) (sym c.is_reached.ensures ∙ c.if-is_reached.true)

pub returns-else-is_reached : goal.returns-else-is_reached
returns-else-is_reached c =
    let names = fragment_names c.args.index.now.fragments.now in
    let old = c.args.self.now in
    let is = sym c.in-Some.ensures in
    let fresh = not_found names c.args.name.now old.marks c.in-Some.last is (sym c.is_reached.ensures ∙ c.if-is_reached.false) in
    on_ok c.mark_from.result _ (Marks names (c.args.name.now ∷ []) old.marks old.waiting c.mark_from.new.self.marks c.mark_from.new.self.waiting) (λ h found was. h c.args.name.now found is (fresh found was) was) c.mark_from.ensures

pub returns-in-None : goal.returns-in-None
returns-in-None c = marked_none (fragment_names c.args.index.now.fragments.now) c.args.name.now c.args.self.now.marks c.args.self.now.waiting (sym c.in-None.ensures)
