use Rattle.std.proofs.Common.{◌≡◌}
use Rattle.serde_json.specs.View.{members_view}
use Rattle.graphql_data_files.specs.RecordPlaces.{misnumbered}
use Rattle.graphql_data_files.proofs.places.misnumbered.Given as goal

-- the first of all is the first of those that are left
abbrev pub invariant-members : goal.invariant-members
invariant-members l = misnumbered (members_view l.members.entries) ≡ misnumbered (members_view l.key-iterator)
