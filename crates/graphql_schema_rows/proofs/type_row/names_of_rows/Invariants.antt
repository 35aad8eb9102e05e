use Rattle.std.proofs.Common.{◌≡◌, map, take}
use Rattle.graphql_schema_rows.specs.Types.{row_names}
use Rattle.graphql_schema_rows.proofs.type_row.names_of_rows.Given as goal

-- those of the rows passed so far
abbrev pub invariant-names : goal.invariant-names
invariant-names g l = map (λ name. name.now) l.names ≡ row_names (take l.checked-index l.rows)
