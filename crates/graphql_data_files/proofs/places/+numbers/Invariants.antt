use Rattle.std.proofs.Common.{◌≡◌, drop}
use Rattle.serde_json.specs.View.{items_view}
use Rattle.graphql_data_files.specs.RecordPlaces.{are_whole}
use Rattle.graphql_data_files.proofs.places.+numbers.Given as goal

-- all are whole where those are that are left
abbrev pub invariant-are_whole-items : goal.invariant-are_whole-items
invariant-are_whole-items l = are_whole (items_view l.items) ≡ are_whole (items_view (drop l.item-index l.items))
