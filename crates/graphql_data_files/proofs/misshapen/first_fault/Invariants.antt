use Rattle.std.proofs.Common.{◌≡◌, drop}
use Rattle.serde_json.specs.View.{items_view}
use Rattle.graphql_data_files.specs.RecordShapes.{first_fault}
use Rattle.graphql_data_files.proofs.misshapen.first_fault.Given as goal

-- the whole has the fault that what is left has
abbrev pub invariant-items : goal.invariant-items
invariant-items l = first_fault 0 (items_view l.items) ≡ first_fault l.at (items_view (drop l.at l.items))
