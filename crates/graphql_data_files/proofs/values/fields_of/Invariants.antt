use Rattle.std.proofs.Common.{◌≡◌}
use Rattle.serde_json.specs.View.{members_view}
use Rattle.graphql_json.proofs.EachTurns.{from}
use Rattle.graphql_data_files.specs.FileValues.{file_fields}
use Rattle.graphql_data_files.proofs.values.fields_of.Given as goal

-- what was found, and then what is left, is what the whole gives
abbrev pub invariant-members : goal.invariant-members
invariant-members l = file_fields (members_view l.members.entries) ≡ from l.found (file_fields (members_view l.key-iterator))
