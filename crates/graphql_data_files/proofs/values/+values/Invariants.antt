use Rattle.std.proofs.Common.{◌≡◌, drop}
use Rattle.serde_json.specs.View.{items_view}
use Rattle.graphql_json.proofs.EachTurns.{from}
use Rattle.graphql_data_files.specs.FileValues.{file_values}
use Rattle.graphql_data_files.proofs.values.+values.Given as goal

-- what was found, and then what is left, is what the whole gives
abbrev pub invariant-list_of-items : goal.invariant-list_of-items
invariant-list_of-items l = file_values (items_view l.items) ≡ from l.found (file_values (items_view (drop l.item-index l.items)))
