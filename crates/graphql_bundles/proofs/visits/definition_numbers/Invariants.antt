use Rattle.graphql_bundles.proofs.VisitLemmas.{Firsts}
use Rattle.graphql_bundles.proofs.visits.definition_numbers.Given as goal

-- the numbers so far
abbrev pub invariant-loop-definition : goal.invariant-loop-definition
invariant-loop-definition l = Firsts l.definitions l.definition l.sets.keys
