-- The schema that a file describes, or why there is none (GraphQL October 2021, 3.3 Schema).
use Rattle.std.specs.Prelude.{◌≡◌, ◌++◌, true, false, List, Option, Some, None, Result, Ok}
use Rattle.std.specs.Prelude.{option_map}
use Rattle.std.specs.Borrow.{Bor}
use Rattle.std.specs.List.{All, AllZip, list_all}
use Rattle.serde_json.specs.Data.{Data}
use Rattle.graphql_text.specs.Memory.{Answers}
use Rattle.graphql_lines.specs.Request.{data_of}
use Rattle.graphql_names.specs.Names.{Bytes}
use Rattle.graphql_scalars.specs.DefaultScalar.{reads, scalar_answer}
use Rattle.graphql_scalars.specs.contracts.default_scalar.DefaultScalarValuePartialEq.TheImpl.{ghosts}
use Rattle.graphql_scalars.specs.declared.default_scalar.DefaultScalarValue.TheVariants as scalar
use Rattle.graphql_schema.specs.Scalars.{Scalars}
use Rattle.graphql_schema.specs.declared.meta.MetaType.{MetaType}
use Rattle.graphql_schema.specs.declared.root_node.RootNode.{RootNode}
use Rattle.graphql_schema.specs.declared.schema.SchemaType.{SchemaType}
use Rattle.graphql_schema.specs.Schemas.{Makes, roots_named}
use Rattle.graphql_schema.specs.Completed.{completed}
use Rattle.graphql_schema.specs.Faults.{Roots, TellsFirst}
use Rattle.graphql_schema_files.specs.declared.drafts.SchemaDraft.{SchemaDraft}
use Rattle.graphql_schema_files.specs.NamedDrafts.{type_is_named}
use Rattle.graphql_schema_files.specs.Shapes.{schema_of}
use Rattle.graphql_schema_files.specs.DraftedTypes.{S, TypeHasDefaults, TypeHasTypes, TypeMeans}
use Rattle.graphql_schema_files.specs.SpelledTexts.{Value}
use Rattle.graphql_schema_files.specs.Conforming.{DraftConforms}
use Rattle.graphql_schema_files.specs.FirstItems.{IsFirst}
use Rattle.graphql_schema_files.specs.UnfitDefaults.{IsUnfitType}
use Rattle.graphql_schema_files.specs.declared.schema_file_error.SchemaFileError.{SchemaFileError}
use Rattle.graphql_schema_files.specs.declared.schema_file_error.SchemaFileError.TheVariants as
    fault

-- a text that is lent, where there is one
abbrev pub words_of : Option (Bor Bytes) → Option Bytes
words_of = option_map (λ text. text.now)

-- the roots that the file names
abbrev pub roots_of : SchemaDraft → Roots
roots_of file = roots_named file.query file.mutation None

-- each type, field and argument that it declares has a name
abbrev pub IsNamed : SchemaDraft → Type 0
IsNamed file = list_all type_is_named file.types ≡ true

-- the types of its fields and arguments are type references
abbrev pub HasTypes : SchemaDraft → Type 0
HasTypes file = All TypeHasTypes file.types

-- its defaults are constant literals
abbrev pub HasDefaults : SchemaDraft → Type 0
HasDefaults file = All TypeHasDefaults file.types

abbrev pub IsMemory : SchemaFileError → Type 0
IsMemory e = e ≡ fault.Memory

-- what the default scalars mean, by what the checks of types accept
abbrev pub default_scalars : {C : Type 0} → (C → Value → Type 0) → Scalars S C
default_scalars accepts = record {
  reads = reads;
  of_bool = scalar.Boolean;
  of_int = scalar.Int;
  of_text = scalar.String;
  eq = ghosts.eq;
  answer = scalar_answer;
  accepts = accepts;
}

-- by what the checks of types accept
module _ {C : Type 0} (accepts : C → Value → Type 0) where
  -- its defaults conform in the schema
  abbrev pub DefaultsConform : SchemaDraft → SchemaType S C → Type 0
  DefaultsConform file schema =
      All (DraftConforms (default_scalars accepts) schema.types) file.types

  -- the first default of the file that does not conform in the schema
  abbrev pub IsFirstUnfit : SchemaDraft → SchemaType S C → SchemaFileError → Type 0
  IsFirstUnfit file schema (fault.UnfitDefault place) =
      IsFirst (IsUnfitType (default_scalars accepts) schema.types) file.types (Some place)
  IsFirstUnfit file schema _ = ⊥

  -- a root node over the schema, or the first default that does not conform in it
  abbrev pub Judges : SchemaDraft → SchemaType S C → Result (RootNode S C) SchemaFileError → Type 0
  Judges file schema result =
      Answers (λ root. (root ≡ record { schema = schema; introspection_disabled = false })
      × DefaultsConform file schema)
      (λ e. IsFirstUnfit file schema e) IsMemory result

  -- by all the types of the schema
  module _ (types : List (MetaType S C)) where
    -- the schema of the types and the file's roots, with introspection, in which the file's
    -- defaults conform
    pub record IsRoot (file : SchemaDraft) (root : RootNode S C) : Type 0 where
      pub made : Makes scalar.String types (roots_of file) (Ok root.schema)
      pub told : root.introspection_disabled ≡ false
      pub conform : DefaultsConform file root.schema

    -- the first fault of the types; or, where they have none, the first default that does not
    -- conform in their schema
    abbrev pub MakingDue : SchemaDraft → SchemaFileError → Type 0
    MakingDue file (fault.Schema e) = TellsFirst (completed types file.query) (roots_of file) e
    MakingDue file (fault.UnfitDefault place) = (schema : SchemaType S C)
        × Makes scalar.String types (roots_of file) (Ok schema)
        × IsFirstUnfit file schema (fault.UnfitDefault place)
    MakingDue file fault.NotJson = ⊥
    MakingDue file fault.BadShape = ⊥
    MakingDue file fault.BadName = ⊥
    MakingDue file fault.BadTypeText = ⊥
    MakingDue file fault.BadDefault = ⊥
    MakingDue file fault.Memory = ⊥

    abbrev pub MakesRoot : SchemaDraft → Result (RootNode S C) SchemaFileError → Type 0
    MakesRoot file result = Answers (IsRoot file) (MakingDue file) IsMemory result

  -- by the types that each schema has
  module _ (builtin : List (MetaType S C)) where
    -- the file has names, and declares types of which this holds, with those that each schema has
    pub record Declares (file : SchemaDraft) (P : List (MetaType S C) → Type 0) : Type 0 where
      pub named : IsNamed file
      pub declared : List (MetaType S C)
      pub described : AllZip TypeMeans file.types declared
      pub holds : P (builtin ++ declared)

    -- the schema of a file that has been drafted
    abbrev pub IsSchemaOf : SchemaDraft → RootNode S C → Type 0
    IsSchemaOf file root = Declares file (λ types. IsRoot types file root)

    -- its first fault
    abbrev pub IsDue : SchemaDraft → SchemaFileError → Type 0
    IsDue file fault.NotJson = ⊥
    IsDue file fault.BadShape = ⊥
    IsDue file fault.BadName = IsNamed file → ⊥
    IsDue file fault.BadTypeText = IsNamed file × (HasTypes file → ⊥)
    IsDue file fault.BadDefault = IsNamed file × HasTypes file × (HasDefaults file → ⊥)
    IsDue file (fault.Schema e) = Declares file (λ types. MakingDue types file (fault.Schema e))
    IsDue file (fault.UnfitDefault place) =
        Declares file (λ types. MakingDue types file (fault.UnfitDefault place))
    IsDue file fault.Memory = ⊥

    abbrev pub ReadsDraft : SchemaDraft → Result (RootNode S C) SchemaFileError → Type 0
    ReadsDraft file result = Answers (IsSchemaOf file) (IsDue file) IsMemory result

    -- of what may be drafted: of JSON that has not the shape of a schema's file, that
    abbrev pub ReadsShape : Option SchemaDraft → Result (RootNode S C) SchemaFileError → Type 0
    ReadsShape None result = Answers (λ root. ⊥) (λ e. e ≡ fault.BadShape) IsMemory result
    ReadsShape (Some file) result = ReadsDraft file result

    -- of what may be JSON: of bytes that are none, that
    abbrev pub ReadsData : Option Data → Result (RootNode S C) SchemaFileError → Type 0
    ReadsData None result = Answers (λ root. ⊥) (λ e. e ≡ fault.NotJson) IsMemory result
    ReadsData (Some json) result = ReadsShape (schema_of json) result

    -- what a reader of the file answers: the schema that it describes, or its first fault; want of
    -- memory tells nothing
    abbrev pub ReadsBytes : Bytes → Result (RootNode S C) SchemaFileError → Type 0
    ReadsBytes bytes result = ReadsData (data_of bytes) result
