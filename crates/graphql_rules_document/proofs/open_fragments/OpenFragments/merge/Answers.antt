use Rattle.std.proofs.Common.{refl, slice_get, sym, ap, ◌∙◌}
use Rattle.graphql_rules_document.proofs.ComponentLemmas.{path_is, path_merged}
use Rattle.graphql_rules_document.proofs.open_fragments.OpenFragments.merge.Goals as goal

pub parts-preserved : goal.parts-preserved
parts-preserved c fragments from there position h behind at_from at_there leads =
    let inv = c.parts.invariant fragments from there position h behind at_from at_there leads in
    let old = c.parts.self in
    let merged =
    path_merged fragments old.path old.start old.earlier c.pop.new.self c.in-Some.start from there position c.args.to c.in-Some.ensures inv.1 inv.2 (ap (λ p. slice_get p position) inv.0 ∙ at_from) c.parts-test.true
    (ap (λ p. slice_get p c.args.to) inv.0 ∙ at_there) leads in
    (inv.0, merged.0, merged.1)

pub returns-in-None : goal.returns-in-None
returns-in-None c fragments from there position h behind at_from at_there leads =
    let inv = c.parts.invariant fragments from there position h behind at_from at_there leads in
    path_is fragments _ _ _ _ _ _ refl refl (c.in-None.ensures.0 ∙ sym c.in-None.ensures.1) inv.1

pub returns : goal.returns
returns c fragments from there position h behind at_from at_there leads = (c.parts.invariant fragments from there position h behind at_from at_there leads).1
