use Rattle.std.proofs.Common.{◌≡◌, drop}
use Rattle.serde_json.specs.View.{items_view}
use Rattle.graphql_json.specs.Parts.{each_read}
use Rattle.graphql_schema_files.specs.Shapes.{type_draft}
use Rattle.graphql_json.proofs.EachTurns.{from}
use Rattle.graphql_schema_files.proofs.shapes.types_of.Given as goal

-- what was found, and then what is left, is what the whole gives
abbrev pub invariant-items : goal.invariant-items
invariant-items l = each_read type_draft (items_view l.items) ≡ from l.types (each_read type_draft (items_view (drop l.item-index l.items)))
