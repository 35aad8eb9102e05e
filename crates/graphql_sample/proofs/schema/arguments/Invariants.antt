use Rattle.std.proofs.Common.{◌≡◌, map, take}
use Rattle.graphql_sample.specs.SampleTypes.{row_argument}
use Rattle.graphql_sample.proofs.schema.arguments.Given as goal

abbrev pub invariant-rows : goal.invariant-rows
invariant-rows l = l.items ≡ map row_argument (take l.row-index l.rows)
