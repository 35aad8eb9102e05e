use Rattle.std.proofs.Common.{◌≡◌, map, drop}
use Rattle.graphql_json.proofs.EachTurns.{from}
use Rattle.graphql_data_files.specs.Drafts.{records_of}
use Rattle.graphql_data_files.specs.LentDrafts.{draft_told}
use Rattle.graphql_data_files.proofs.drafts.records_of.Given as goal

-- what was made, and then what is left, is what the whole gives
abbrev pub invariant-drafts : goal.invariant-drafts
invariant-drafts l = records_of (map draft_told l.drafts) ≡ from l.records (records_of (map draft_told (drop l.draft-index l.drafts)))
