use Rattle.std.proofs.Common.{◌≡◌, take}
use Rattle.graphql_schema_files.proofs.metadata.names_of.Given as goal

abbrev pub invariant-names : goal.invariant-names
invariant-names l = l.copies ≡ take l.name-index l.names
