-- The outline of a schema: the types that a file declares, whose scalars accept nothing and refuse
-- nothing (GraphQL October 2021, 3.3 Schema).
use Rattle.std.specs.Prelude.{◌≡◌, ◌++◌, ◌∷◌, [], List, Option, Some, None, Result, Ok, codes}
use Rattle.std.specs.List.{All, AllZip}
use Rattle.serde_json.specs.Data.{Data}
use Rattle.graphql_text.specs.Memory.{Answers}
use Rattle.graphql_lines.specs.Request.{data_of}
use Rattle.graphql_names.specs.Names.{Bytes}
use Rattle.graphql_scalars.specs.declared.default_scalar.DefaultScalarValue.TheVariants as scalar
use Rattle.graphql_schema.specs.declared.meta.MetaType.{MetaType}
use Rattle.graphql_schema.specs.declared.meta.MetaType.TheVariants as meta
use Rattle.graphql_schema.specs.declared.schema.SchemaType.{SchemaType}
use Rattle.graphql_schema.specs.Schemas.{Makes}
use Rattle.graphql_schema.specs.Completed.{completed}
use Rattle.graphql_schema.specs.Faults.{TellsFirst}
use Rattle.graphql_schema_files.specs.Builtin as builtin
use Rattle.graphql_schema_files.specs.DraftedTypes.{S, TypeIsSound, TypeMeans}
use Rattle.graphql_schema_files.specs.SchemaFiles.{IsMemory, roots_of}
use Rattle.graphql_schema_files.specs.Shapes.{schema_of}
use Rattle.graphql_schema_files.specs.declared.drafts.SchemaDraft.{SchemaDraft}
use Rattle.graphql_schema_files.specs.declared.schema_file_error.SchemaFileError.{SchemaFileError}
use Rattle.graphql_schema_files.specs.declared.schema_file_error.SchemaFileError.TheVariants as
    fault

abbrev pub Outline : Type 0
Outline = SchemaType S (Unit {0})

abbrev pub OutlineType : Type 0
OutlineType = MetaType S (Unit {0})

-- a scalar without a check
abbrev pub bare_scalar : Bytes → OutlineType
bare_scalar name = builtin.scalar name tt

-- an object without fields
abbrev pub bare_object : Bytes → OutlineType
bare_object name =
    meta.Object (record { name = name; description = None; fields = []; interface_names = [] })

-- the scalars, and the types of the fields `__schema` and `__type` of the query root
abbrev pub outline_types : List OutlineType
outline_types =
    bare_scalar (codes "Int") ∷ bare_scalar (codes "String") ∷ bare_scalar (codes "Boolean")
    ∷ bare_scalar (codes "ID")
    ∷ bare_object (codes "__Schema") ∷ bare_object (codes "__Type") ∷ []

-- the file declares types of which this holds, with those
abbrev pub Declares : SchemaDraft → (List OutlineType → Type 0) → Type 0
Declares file P = (declared : List OutlineType)
    × AllZip TypeMeans file.types declared
    × P (outline_types ++ declared)

-- the schema of these types
abbrev pub IsOutline : SchemaDraft → Outline → Type 0
IsOutline file schema =
    Declares file (λ types. Makes scalar.String types (roots_of file) (Ok schema))

-- some text in the file is not right, or the first fault of its types
abbrev pub OutlineDue : SchemaDraft → SchemaFileError → Type 0
OutlineDue file fault.BadTypeText = All TypeIsSound file.types → ⊥
OutlineDue file (fault.Schema e) =
    Declares file (λ types. TellsFirst (completed types file.query) (roots_of file) e)
OutlineDue file _ = ⊥

abbrev pub Outlines : SchemaDraft → Result Outline SchemaFileError → Type 0
Outlines file result = Answers (IsOutline file) (OutlineDue file) IsMemory result

-- of what may be drafted
abbrev pub OutlinesShape : Option SchemaDraft → Result Outline SchemaFileError → Type 0
OutlinesShape None result = Answers (λ schema. ⊥) (λ e. e ≡ fault.BadShape) IsMemory result
OutlinesShape (Some file) result = Outlines file result

-- of what may be JSON
abbrev pub OutlinesData : Option Data → Result Outline SchemaFileError → Type 0
OutlinesData None result = Answers (λ schema. ⊥) (λ e. e ≡ fault.NotJson) IsMemory result
OutlinesData (Some json) result = OutlinesShape (schema_of json) result

-- the outline of the file of these bytes, or why there is none
abbrev pub OutlinesBytes : Bytes → Result Outline SchemaFileError → Type 0
OutlinesBytes bytes result = OutlinesData (data_of bytes) result
