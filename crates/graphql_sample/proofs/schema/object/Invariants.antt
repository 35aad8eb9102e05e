use Rattle.std.proofs.Common.{◌≡◌, map, take}
use Rattle.graphql_sample.specs.SampleTypes.{row_field}
use Rattle.graphql_sample.proofs.schema.object.Given as goal

abbrev pub invariant-rows : goal.invariant-rows
invariant-rows l = l.fields ≡ map row_field (take l.row-index l.rows)
