use Rattle.std.proofs.Common.{◌≡◌, map, take}
use Rattle.graphql_introspection.specs.Metadata.{row_field, row}
use Rattle.graphql_introspection.proofs.metadata.fields.Given as goal

abbrev pub invariant-rows : goal.invariant-rows
invariant-rows g l =
    l.items ≡ map (row_field g.S.ScalarValue.of_bool) (map row (take l.row-index l.rows))
