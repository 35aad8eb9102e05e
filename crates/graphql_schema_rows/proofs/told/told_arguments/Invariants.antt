use Rattle.std.proofs.Common.{◌≡◌, ◌++◌, List, Ok}
use Rattle.std.specs.Vec.Iter.{into_iter_items}
use Rattle.graphql_schema_rows.specs.Notes as spec
use Rattle.graphql_schema_rows.specs.declared.written.ArgumentDefinition.{ArgumentDefinition}
use Rattle.graphql_schema_rows.proofs.told.told_arguments.Given as goal

-- those that were passed are told
abbrev pub invariant-arguments : goal.invariant-arguments
invariant-arguments g l = record {
  before : List (ArgumentDefinition g.row.S.Denot);
  is : l.fn.definitions ≡ before ++ into_iter_items l.definition-iterator;
  told : spec.told_arguments before ≡ Ok l.told;
}
