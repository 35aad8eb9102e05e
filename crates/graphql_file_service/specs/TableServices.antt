-- The service over the schema and the records that two files describe, or why there is none.
use Rattle.std.specs.Prelude.{◌≡◌, Bool, true, false, List, Result, Ok, Err}
use Rattle.graphql_text.specs.Memory.{Meets}
use Rattle.graphql_names.specs.Names.{Bytes}
use Rattle.graphql_schema.specs.declared.meta.MetaType.{MetaType}
use Rattle.graphql_schema.specs.Declarations.{declarations_of}
use Rattle.graphql_schema.specs.Directives.{has_standard_conditions}
use Rattle.graphql_schema.specs.Executable.{is_executable}
use Rattle.graphql_schema.specs.Schemas.{roots_of}
use Rattle.graphql_schema.specs.declared.root_node.RootNode.{RootNode}
use Rattle.graphql_schema.specs.declared.schema.SchemaType.{SchemaType}
use Rattle.graphql_scalars.specs.declared.default_scalar.DefaultScalarValue.{DefaultScalarValue}
use Rattle.graphql_scalars.specs.declared.default_scalar.DefaultScalarValue.TheVariants.{Boolean}
use Rattle.graphql_values.specs.declared.input_value.InputValue.{InputValue}
use Rattle.graphql_schema_files.specs.SchemaFiles.{ReadsBytes}
use Rattle.graphql_data_files.specs.DataFiles.{read_of}
use Rattle.graphql_data_files.specs.declared.data_file_error.DataFileError.{DataFileError}
use Rattle.graphql_data_files.specs.declared.data_file_error.DataFileError.TheVariants as error
use Rattle.graphql_records.specs.Tables.{Table}
use Rattle.graphql_table.specs.Resolvers.{IsResolverOf}
use Rattle.graphql_table.specs.TableTypes.{table_types}
use Rattle.graphql_table.specs.declared.resolver.TableResolver.{TableResolver}
use Rattle.graphql_service.specs.Made.{IsOf, TakesTrue}
use Rattle.graphql_service.specs.declared.service.Service.{Service}
use Rattle.graphql_file_service.specs.declared.run_fault.RunFault.{RunFault}
use Rattle.graphql_file_service.specs.declared.run_fault.RunFault.TheVariants as fault

abbrev pub TableService : Type 0 → Type 0
TableService C = Service DefaultScalarValue TableResolver Table C

module _ {C : Type 0} where
  -- the records that a file has for a schema, or the first of its faults
  abbrev pub records_in : SchemaType DefaultScalarValue C → Bytes → Result Table DataFileError
  records_in schema bytes = read_of (table_types schema.types) schema.query bytes

  abbrev pub executable : RootNode DefaultScalarValue C → Bool
  executable root = is_executable root.schema.types (roots_of root.schema)

  -- `Boolean` takes `true`, so that the schema takes the stand-in of plain texts
  abbrev pub HasTrue : (C → InputValue DefaultScalarValue → Type 0) → RootNode DefaultScalarValue C
      → Type 0
  HasTrue accepts root = TakesTrue accepts (declarations_of root.schema) Boolean

  -- a service can be made over it, where `Boolean` takes `true`
  abbrev pub IsReady : RootNode DefaultScalarValue C → Type 0
  IsReady root = (executable root ≡ true) × (has_standard_conditions root.schema.directives ≡ true)

  -- the service of these parts
  abbrev pub IsMadeOf : (C → InputValue DefaultScalarValue → Type 0) → RootNode DefaultScalarValue C
      → TableResolver
      → Table → Result (TableService C) RunFault → Type 0
  IsMadeOf accepts root resolver table (Ok service) =
      IsOf root resolver table 65536 10000 service × HasTrue accepts root
  IsMadeOf accepts root resolver table (Err fault.OtherBoolean) = HasTrue accepts root → ⊥
  IsMadeOf accepts root resolver table (Err fault.Memory) = Unit {0}
  IsMadeOf accepts root resolver table (Err _) = ⊥

-- by what the checks of types accept, the types that each schema has, and the bytes of both files
module _ {C : Type 0} (accepts : C → InputValue DefaultScalarValue → Type 0)
    (builtin : List (MetaType DefaultScalarValue C)) (schema_file records_file : Bytes) where
  -- a root node over the schema that the first file describes, which can be executed or not
  abbrev pub Describes : Bool → RootNode DefaultScalarValue C → Type 0
  Describes is_executable root =
      ReadsBytes accepts builtin schema_file (Ok root) × (executable root ≡ is_executable)

  -- the service over that schema, whose `Boolean` takes `true`, and the records that the second
  -- file has for it
  pub record IsDescribed (service : TableService C) : Type 0 where
    pub described : Describes true service.root_node
    pub truth : HasTrue accepts service.root_node
    pub resolver : IsResolverOf service.root_node.schema service.resolver
    pub records : records_in service.root_node.schema records_file ≡ Ok service.context
    pub line_limit : service.line_limit ≡ 65536
    pub selection_limit : service.selection_limit ≡ 10000

  -- the first fault of the files; want of memory tells nothing of them
  abbrev pub IsDue : RunFault → Type 0
  IsDue (fault.Schema e) = ReadsBytes accepts builtin schema_file (Err e)
  IsDue fault.NotExecutable = (root : RootNode DefaultScalarValue C) × Describes false root
  IsDue (fault.Data e) =
      (root : RootNode DefaultScalarValue C)
      × Describes true root
      × Meets (λ e. e ≡ error.Memory) (Err e) (records_in root.schema records_file)
  IsDue fault.OtherBoolean =
      (root : RootNode DefaultScalarValue C)
      × (table : Table)
      × Describes true root
      × (records_in root.schema records_file ≡ Ok table)
      × (HasTrue accepts root → ⊥)
  IsDue (fault.Serve e) = ⊥
  IsDue fault.Memory = ⊥
