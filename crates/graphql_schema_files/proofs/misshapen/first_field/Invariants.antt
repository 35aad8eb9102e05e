use Rattle.std.proofs.Common.{◌≡◌, drop}
use Rattle.serde_json.specs.View.{items_view}
use Rattle.graphql_schema_files.specs.ShapeFaults.{field_fault, first_fault, in_field}
use Rattle.graphql_schema_files.proofs.misshapen.first_field.Given as goal

-- the whole has the fault that what is left has
abbrev pub invariant-items : goal.invariant-items
invariant-items l = first_fault in_field field_fault 0 (items_view l.items) ≡ first_fault in_field field_fault l.place (items_view (drop l.place l.items))
