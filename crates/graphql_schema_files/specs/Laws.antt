-- Of which faults of a file it is told where they stand.
use Rattle.std.specs.Prelude.{◌≡◌, ◌↔◌, List, Option, None, Err, IsSome}
use Rattle.serde_json.specs.Data.{Data}
use Rattle.graphql_names.specs.Names.{Bytes}
use Rattle.graphql_schema.specs.declared.meta.MetaType.{MetaType}
use Rattle.graphql_schema_files.specs.DeclarationPlaces.{IsPlace, IsPlaceIn}
use Rattle.graphql_schema_files.specs.DraftedTypes.{S}
use Rattle.graphql_schema.specs.declared.schema.SchemaType.{SchemaType}
use Rattle.graphql_schema_files.specs.SchemaFiles.{DefaultsConform, HasDefaults, HasTypes}
use Rattle.graphql_schema_files.specs.SchemaFiles.{IsFirstUnfit, IsNamed, ReadsBytes}
use Rattle.graphql_schema_files.specs.ShapeFaults.{fault_in, file_fault}
use Rattle.graphql_schema_files.specs.Shapes.{schema_of}
use Rattle.graphql_schema_files.specs.SpelledTexts.{Value}
use Rattle.graphql_schema_files.specs.declared.declaration_place.DeclarationPlace.{DeclarationPlace}
use Rattle.graphql_schema_files.specs.declared.drafts.SchemaDraft.{SchemaDraft}
use Rattle.graphql_schema_files.specs.declared.schema_file_error.SchemaFileError.{SchemaFileError}
use Rattle.graphql_schema_files.specs.declared.schema_file_error.SchemaFileError.TheVariants as
    fault

-- a file has a fault of its declarations, whatever else it has: a name that is none, a type that is
-- no type reference, a default that is no constant literal; one that does not conform is told with
-- its place
abbrev pub HasFault : SchemaFileError → SchemaDraft → Type 0
HasFault fault.BadName file = IsNamed file → ⊥
HasFault fault.BadTypeText file = HasTypes file → ⊥
HasFault fault.BadDefault file = HasDefaults file → ⊥
HasFault (fault.UnfitDefault place) file = Unit {0}
HasFault _ file = ⊥

-- a place is told of a fault exactly where the file has it
abbrev pub FaultsHavePlaces : Type 0
FaultsHavePlaces = (e : SchemaFileError) (file : SchemaDraft) (found : Option DeclarationPlace)
    → IsPlaceIn e file found → IsSome found ↔ HasFault e file

-- a fault is of a file's declarations
abbrev pub IsOfDeclarations : SchemaFileError → Type 0
IsOfDeclarations fault.BadName = Unit {0}
IsOfDeclarations fault.BadTypeText = Unit {0}
IsOfDeclarations fault.BadDefault = Unit {0}
IsOfDeclarations (fault.UnfitDefault place) = Unit {0}
IsOfDeclarations _ = ⊥

-- by what the checks of types accept: whatever types each schema has, a fault of a file's
-- declarations that is told has a place
abbrev pub ToldFaultsHavePlaces : {C : Type 0} → (C → Value → Type 0) → Type 0
ToldFaultsHavePlaces {C} accepts = (builtin : List (MetaType S C)) (bytes : Bytes)
    (e : SchemaFileError) (found : Option DeclarationPlace)
    → ReadsBytes accepts builtin bytes (Err e) → IsOfDeclarations e
    → IsPlace e bytes found → IsSome found

-- of JSON a member has not its shape exactly where the whole has not that of a schema's file
abbrev pub ShapeFaultsStand : Type 0
ShapeFaultsStand = (d : Data) → IsSome (file_fault d) ↔ (schema_of d ≡ None)

-- by what the checks of types accept: whatever types each schema has, where it is told of a file
-- that it has not the shape of one, a member has not its shape
abbrev pub ToldShapesHaveFaults : {C : Type 0} → (C → Value → Type 0) → Type 0
ToldShapesHaveFaults {C} accepts = (builtin : List (MetaType S C)) (bytes : Bytes)
    → ReadsBytes accepts builtin bytes (Err fault.BadShape) → IsSome (fault_in bytes)

-- by what the checks of types accept: a default of which it is told that it is the first that does
-- not conform in a schema does not conform in it
abbrev pub UnfitDefaultsDoNotConform : {C : Type 0} → (C → Value → Type 0) → Type 0
UnfitDefaultsDoNotConform {C} accepts = (file : SchemaDraft) (schema : SchemaType S C)
    (e : SchemaFileError) → IsFirstUnfit accepts file schema e → DefaultsConform accepts file schema
    → ⊥
