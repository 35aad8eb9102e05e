use Rattle.std.proofs.Common.{◌≡◌}
use Rattle.serde_json.specs.View.{members_view}
use Rattle.graphql_data_files.specs.RecordShapes.{misshapen}
use Rattle.graphql_data_files.proofs.misshapen.misshapen.Given as goal

-- the first of all is the first of those that are left
abbrev pub invariant-members : goal.invariant-members
invariant-members l = misshapen (members_view l.members.entries) ≡ misshapen (members_view l.key-iterator)
