use Rattle.std.proofs.Common.{◌≡◌, ◌++◌, List}
use Rattle.std.specs.List.{AllZip}
use Rattle.std.specs.Vec.Iter.{into_iter_items}
use Rattle.graphql_schema_rows.specs.Types as spec
use Rattle.graphql_schema_rows.specs.declared.type_row.CheckedRow.{CheckedRow}
use Rattle.graphql_schema_rows.proofs.type_row.types_of_rows.Given as goal

-- the rows that were passed are the types so far
abbrev pub invariant-rows : goal.invariant-rows
invariant-rows g l = record {
  before : List (CheckedRow g.row.C.Denot);
  is : l.fn.rows.items ≡ before ++ into_iter_items l.checked-iterator;
  made : AllZip (spec.IsTypeOf g.S.ParseScalarValue.reads g.S.ScalarValue.of_bool g.S.ScalarValue.answer) before l.types;
}
