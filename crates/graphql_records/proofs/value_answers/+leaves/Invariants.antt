use Rattle.std.proofs.Common.{◌≡◌, take, map}
use Rattle.graphql_records.specs.Fields.{at_leaf}
use Rattle.graphql_records.proofs.value_answers.+leaves.Given as goal

abbrev pub invariant-leaves-values : goal.invariant-leaves-values
invariant-leaves-values l = l.answers ≡ map at_leaf (take l.value-index l.value-items)
