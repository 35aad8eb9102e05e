use Rattle.std.proofs.Common.{take}
use Rattle.std.specs.List.{AllZip}
use Rattle.graphql_schema_rows.specs.Rows as spec
use Rattle.graphql_schema_rows.proofs.rows.fields_of.Given as goal

-- what those passed so far mean
abbrev pub invariant-rows : goal.invariant-rows
invariant-rows g l = AllZip (spec.FieldMeans g.S.ParseScalarValue.reads g.S.ScalarValue.of_bool g.S.ScalarValue.answer) (take l.row-index l.rows) l.fields
