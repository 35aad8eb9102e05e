use Rattle.std.proofs.Common.{◌≡◌, take}
use Rattle.graphql_execution_walk.proofs.selected.lent_again.Given as goal

abbrev pub invariant-loop-occurrence : goal.invariant-loop-occurrence
invariant-loop-occurrence g l = l.these ≡ take l.occurrence-index l.fields
