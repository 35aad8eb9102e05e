-- How a run ended before a line was read.
use Rattle.std.proofs.Common.{◌≡◌, true, List, Ok, Err}
use Rattle.graphql_names.specs.Names.{Bytes}
use Rattle.graphql_stores.specs.declared.allowed_queries.AllowedQueries.{AllowedQueries}
use Rattle.graphql_scalars.specs.declared.default_scalar.DefaultScalarValue.{DefaultScalarValue}
use Rattle.graphql_values.specs.declared.input_value.InputValue.{InputValue}
use Rattle.graphql_schema.specs.declared.meta.MetaType.{MetaType}
use Rattle.graphql_schema.specs.declared.root_node.RootNode.{RootNode}
use Rattle.graphql_schema.specs.declared.schema.SchemaType.{SchemaType}
use Rattle.graphql_records.specs.Tables.{Table}
use Rattle.graphql_records.specs.declared.table_node.TableNode.{TableNode}
use Rattle.graphql_table.specs.declared.resolver.TableResolver.{TableResolver}
use Rattle.graphql_service.specs.Answers.{Answerer}
use Rattle.graphql_file_service.specs.Runs.{Streams}
use Rattle.graphql_file_service.specs.TableServices.{Describes, IsDescribed, IsDue, IsMadeOf, TableService, records_in}
use Rattle.graphql_file_service.specs.declared.run_fault.RunFault.{RunFault}
use Rattle.graphql_file_service.specs.declared.run_fault.RunFault.TheVariants as fault
use Rattle.graphql_file_service.proofs.Services.{no_truth}
use Rattle.allowed_queries.specs.Runs.{RanAllowed}

module _ {C : Type 0} (accepts : C → InputValue DefaultScalarValue → Type 0) (builtin : List (MetaType DefaultScalarValue C)) (schema_file records_file : Bytes)
    (root : RootNode DefaultScalarValue C) (described : Describes accepts builtin schema_file records_file true root) where
  -- where there is no service nothing was read and nothing written
  pub unmade : (answerer : TableService C → Answerer DefaultScalarValue C TableNode Table) (store : AllowedQueries) (bytes : Streams)
      (resolver : TableResolver) (again : SchemaType DefaultScalarValue C) → again ≡ root.schema → (table : Table) → records_in again records_file ≡ Ok table
      → (e : RunFault) → IsMadeOf accepts root resolver table (Err e) → (bytes.rest ≡ bytes.left) × (bytes.new ≡ bytes.old)
      → RanAllowed answerer (IsDescribed accepts builtin schema_file records_file) (IsDue accepts builtin schema_file records_file) store bytes (Err e)
  unmade answerer store bytes resolver again equal table read fault.OtherBoolean refuses same =
      (no_truth accepts builtin schema_file records_file root described again equal table read refuses, same)
  unmade answerer store bytes resolver again equal table read fault.Memory made same = same
  unmade answerer store bytes resolver again equal table read (fault.Schema e) made same = absurd made
  unmade answerer store bytes resolver again equal table read fault.NotExecutable made same = absurd made
  unmade answerer store bytes resolver again equal table read (fault.Data e) made same = absurd made
  unmade answerer store bytes resolver again equal table read (fault.Serve e) made same = absurd made
