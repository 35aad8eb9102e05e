use Rattle.std.proofs.Common.{take}
use Rattle.std.specs.List.{All}
use Rattle.graphql_schema_files.specs.DraftedTypes.{ArgumentHasType}
use Rattle.graphql_schema_files.proofs.typed.arguments_have_types.Given as goal

-- those passed so far have types
abbrev pub invariant-arguments : goal.invariant-arguments
invariant-arguments l = All ArgumentHasType (take l.argument-index l.arguments)
