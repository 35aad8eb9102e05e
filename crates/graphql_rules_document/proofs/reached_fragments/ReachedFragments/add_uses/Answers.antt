use Rattle.std.proofs.Common.{◌<◌, get_or, length, map, ap, subst, ◌∙◌}
use Rattle.graphql_rules_document.specs.Lent.{use_of}
use Rattle.graphql_rules_document.proofs.UsesLemmas.{uses_more}
use Rattle.graphql_rules_document.proofs.reached_fragments.ReachedFragments.add_uses.Goals as goal

pub fragments-preserved : goal.fragments-preserved
fragments-preserved c test are =
    let item = c.fragment-item.result in
    let fragments = c.args.index.now.fragments.now in
    let place = c.fragments.place in
    let same = c.fragments-fragment-items.ensures in
    let within : place < length fragments = subst (λ fs. place < length fs) same c.fragments-test.true in
    uses_more test fragments place item within c.args.self.now.marks are (c.fragment-item.is ∙ ap (λ fs. get_or fs place item) same) c.is_reached.result c.is_reached.ensures
    (map use_of c.args.uses.now) (map use_of c.fragments.uses) (map use_of c.add_if.new.uses) (c.fragments.invariant test are) c.in_ok-add_if.ensures
