use Rattle.std.proofs.Common.{take}
use Rattle.std.specs.List.{All}
use Rattle.graphql_schema_files.specs.DraftedTypes.{FieldHasTypes}
use Rattle.graphql_schema_files.proofs.typed.fields_have_types.Given as goal

-- those passed so far have types
abbrev pub invariant-fields : goal.invariant-fields
invariant-fields l = All FieldHasTypes (take l.field-index l.fields)
