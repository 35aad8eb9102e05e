use Rattle.std.proofs.Common.{sym, subst}
use Rattle.graphql_bundles.proofs.VisitLemmas.{Firsts, firsts-none, firsts-more, firsts-all}
use Rattle.graphql_bundles.proofs.visits.definition_numbers.Goals as goal

pub loop-definition-init : goal.loop-definition-init
loop-definition-init c = subst (Firsts c.args.definitions 0) (sym c.new-sets.ensures.empty) (firsts-none c.args.definitions)

pub loop-definition-preserved : goal.loop-definition-preserved
loop-definition-preserved c =
    firsts-more c.args.definitions c.loop-definition.definition c.loop-definition.sets.keys c.add_numbers.new.sets.keys c.loop-definition-test.true
    c.loop-definition.invariant c.in_ok-add_numbers.ensures

pub returns : goal.returns
returns c = firsts-all c.args.definitions c.loop-definition.definition c.loop-definition.sets.keys c.loop-definition-test.false c.loop-definition.invariant
