use Rattle.std.proofs.Common.{◌≡◌, map, drop}
use Rattle.serde_json.specs.View.{items_view}
use Rattle.graphql_json.specs.Parts.{each_read}
use Rattle.graphql_json.proofs.EachTurns.{from}
use Rattle.graphql_data_files.specs.Drafts.{draft_of}
use Rattle.graphql_data_files.specs.LentDrafts.{draft_told}
use Rattle.graphql_data_files.proofs.drafts.drafts_of.Given as goal

-- what was found, and then what is left, is what the whole gives
abbrev pub invariant-items : goal.invariant-items
invariant-items l = each_read draft_of (items_view l.items) ≡ from (map draft_told l.drafts) (each_read draft_of (items_view (drop l.item-index l.items)))
