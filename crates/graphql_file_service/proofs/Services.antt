-- A service that is made of what two files describe, step by step.
use Rattle.std.proofs.Common.{◌≡◌, refl, Bool, true, List, Result, Ok, Err, OnOk, ap, sym, subst, ◌∙◌}
use Rattle.std.specs.Prelude.{IfErr}
use Rattle.graphql_text.specs.Memory.{Meets}
use Rattle.graphql_names.specs.Names.{Bytes}
use Rattle.graphql_scalars.specs.declared.default_scalar.DefaultScalarValue.{DefaultScalarValue}
use Rattle.graphql_values.specs.declared.input_value.InputValue.{InputValue}
use Rattle.graphql_schema.specs.declared.meta.MetaType.{MetaType}
use Rattle.graphql_schema.specs.Executable.{is_executable}
use Rattle.graphql_schema.specs.Schemas.{roots_of}
use Rattle.graphql_schema.specs.declared.root_node.RootNode.{RootNode}
use Rattle.graphql_schema.specs.declared.schema.SchemaType.{SchemaType}
use Rattle.graphql_data_files.specs.declared.data_file_error.DataFileError.{DataFileError}
use Rattle.graphql_data_files.specs.declared.data_file_error.DataFileError.TheVariants as error
use Rattle.graphql_records.specs.Tables.{Table}
use Rattle.graphql_table.specs.Resolvers.{IsResolverOf}
use Rattle.graphql_table.specs.declared.resolver.TableResolver.{TableResolver}
use Rattle.graphql_streams.specs.declared.serve_error.ServeError.{ServeError}
use Rattle.graphql_service.specs.Answers.{Answerer}
use Rattle.graphql_records.specs.declared.table_node.TableNode.{TableNode}
use Rattle.graphql_file_service.specs.Runs.{Ended, Ran, Streams, served}
use Rattle.graphql_file_service.specs.TableServices.{Describes, HasTrue, IsDescribed, IsDue, IsMadeOf, TableService, executable, records_in}
use Rattle.graphql_file_service.specs.declared.run_fault.RunFault.{RunFault}
use Rattle.graphql_file_service.specs.declared.run_fault.RunFault.TheVariants as fault

-- what is told of the schema that a root node lends
pub tested : {C : Type 0} (root : RootNode DefaultScalarValue C) (lent : SchemaType DefaultScalarValue C) → lent ≡ root.schema → (told wanted : Bool)
    → told ≡ is_executable lent.types (roots_of lent) → told ≡ wanted → executable root ≡ wanted
tested root lent same told wanted value is = ap (λ s. is_executable s.types (roots_of s)) (sym same) ∙ sym value ∙ is

module _ {C : Type 0} (accepts : C → InputValue DefaultScalarValue → Type 0) (builtin : List (MetaType DefaultScalarValue C)) (schema_file records_file : Bytes)
    (root : RootNode DefaultScalarValue C) (described : Describes accepts builtin schema_file records_file true root) where
  -- the file of records has none for the schema
  pub no_records : (lent : SchemaType DefaultScalarValue C) → lent ≡ root.schema → (e : DataFileError) → Meets (λ e. e ≡ error.Memory) (Err e) (records_in lent records_file)
      → IsDue accepts builtin schema_file records_file (fault.Data e)
  no_records lent same e met = (root, described, subst (λ s. Meets (λ e. e ≡ error.Memory) (Err e) (records_in s records_file)) same met)

  -- both files describe something, and `Boolean` does not take `true`
  pub no_truth : (again : SchemaType DefaultScalarValue C) → again ≡ root.schema → (table : Table) → records_in again records_file ≡ Ok table
      → (HasTrue accepts root → ⊥) → IsDue accepts builtin schema_file records_file fault.OtherBoolean
  no_truth again same table read refuses =
      (root, table, described, subst (λ s. records_in s records_file ≡ Ok table) same read, refuses)

  -- the service is made of what both describe
  pub service_made : (lent : SchemaType DefaultScalarValue C) → lent ≡ root.schema → (resolver : TableResolver) → IsResolverOf lent resolver
      → (again : SchemaType DefaultScalarValue C) → again ≡ root.schema → (table : Table) → records_in again records_file ≡ Ok table
      → (service : TableService C) → IsMadeOf accepts root resolver table (Ok service) → IsDescribed accepts builtin schema_file records_file service
  service_made lent same resolver keeps again same_again table read service (made, truth) = record {
    described = subst (Describes accepts builtin schema_file records_file true) (sym made.root_node) described;
    truth = subst (HasTrue accepts) (sym made.root_node) truth;
    resolver =
        subst (λ node. IsResolverOf node.schema service.resolver) (sym made.root_node)
        (subst (IsResolverOf root.schema) (sym made.resolver) (subst (λ s. IsResolverOf s resolver) same keeps));
    records =
        subst (λ node. records_in node.schema records_file ≡ Ok service.context) (sym made.root_node)
        (subst (λ t. records_in root.schema records_file ≡ Ok t) (sym made.context) (subst (λ s. records_in s records_file ≡ Ok table) same_again read));
    line_limit = made.line_limit;
    selection_limit = made.selection_limit;
  }

  -- where there is no service nothing was read and nothing written
  pub unmade : (answerer : TableService C → Answerer DefaultScalarValue C TableNode Table) (bytes : Streams) (plain : Bool)
      (resolver : TableResolver) (again : SchemaType DefaultScalarValue C) → again ≡ root.schema → (table : Table) → records_in again records_file ≡ Ok table
      → (e : RunFault) → IsMadeOf accepts root resolver table (Err e) → (bytes.rest ≡ bytes.left) × (bytes.new ≡ bytes.old)
      → Ran answerer (IsDescribed accepts builtin schema_file records_file) (IsDue accepts builtin schema_file records_file) bytes plain (Err e)
  unmade answerer bytes plain resolver again equal table read fault.OtherBoolean refuses same = (no_truth again equal table read refuses, same)
  unmade answerer bytes plain resolver again equal table read fault.Memory made same = same
  unmade answerer bytes plain resolver again equal table read (fault.Schema e) made same = absurd made
  unmade answerer bytes plain resolver again equal table read fault.NotExecutable made same = absurd made
  unmade answerer bytes plain resolver again equal table read (fault.Data e) made same = absurd made
  unmade answerer bytes plain resolver again equal table read (fault.Serve e) made same = absurd made

-- and no line was answered
pub unserved : {C : Type 0} (accepts : C → InputValue DefaultScalarValue → Type 0) (root : RootNode DefaultScalarValue C)
    (resolver : TableResolver) (table : Table) (e : RunFault) → IsMadeOf accepts root resolver table (Err e) → served (Err e) ≡ Ok tt
unserved accepts root resolver table fault.OtherBoolean made = refl
unserved accepts root resolver table fault.Memory made = refl
unserved accepts root resolver table (fault.Schema e) made = absurd made
unserved accepts root resolver table fault.NotExecutable made = absurd made
unserved accepts root resolver table (fault.Data e) made = absurd made
unserved accepts root resolver table (fault.Serve e) made = absurd made

-- how a run over lines ended
pub ended : (r : Result (Unit {0}) ServeError) (all : Type 0) (ends : ServeError → Type 0) → OnOk r all → IfErr r ends → Ended all ends r
ended (Ok x) all ends h k = h
ended (Err e) all ends h k = k
