use Rattle.std.proofs.Common.{take}
use Rattle.std.specs.List.{All}
use Rattle.graphql_schema_files.specs.DraftedTypes.{TypeHasTypes}
use Rattle.graphql_schema_files.proofs.typed.have_types.Given as goal

-- those passed so far have types
abbrev pub invariant-types : goal.invariant-types
invariant-types l = All TypeHasTypes (take l.draft-index l.types)
