-- What is read, answered and written over two files, where a store decides what is allowed.
use Rattle.std.specs.Prelude.{◌≡◌, Result, Ok, Err}
use Rattle.graphql_stores.specs.declared.allowed_queries.AllowedQueries.{AllowedQueries}
use Rattle.graphql_scalars.specs.declared.default_scalar.DefaultScalarValue.{DefaultScalarValue}
use Rattle.graphql_records.specs.Tables.{Table}
use Rattle.graphql_records.specs.declared.table_node.TableNode.{TableNode}
use Rattle.graphql_service.specs.Answers.{Answerer}
use Rattle.graphql_streams.specs.Counts.{HasRisen}
use Rattle.graphql_streams.specs.Served.{Ends, ServedAll}
use Rattle.graphql_streams.specs.declared.serve_error.ServeError.{ServeError}
use Rattle.graphql_file_service.specs.Runs.{Ended, Streams}
use Rattle.graphql_file_service.specs.TableServices.{TableService}
use Rattle.graphql_file_service.specs.declared.run_fault.RunFault.{RunFault}
use Rattle.graphql_file_service.specs.declared.run_fault.RunFault.TheVariants as fault
use Rattle.graphql_stores.specs.Allowing.{AnswersIfAllowed, BreaksIfAllowed}

-- by what a service answers, and by a store
module _ {C : Type 0} (answerer : TableService C → Answerer DefaultScalarValue C TableNode Table)
    (store : AllowedQueries) (bytes : Streams) where
  -- each line was answered where the store allows what it asks, or why no more lines were; the
  -- records that the lines left
  abbrev pub AnsweredAllowed : TableService C → Table → Result (Unit {0}) ServeError → Type 0
  AnsweredAllowed service after =
      Ended
      (ServedAll (AnswersIfAllowed (answerer service) service.selection_limit store) service.context
      bytes.left bytes.rest bytes.old bytes.new after)
      (λ e. Ends (AnswersIfAllowed (answerer service) service.selection_limit store)
      (BreaksIfAllowed (answerer service) service.selection_limit store)
      (HasRisen bytes.faults bytes.faults_after) e service.context bytes.left bytes.rest bytes.old
      bytes.new after)

-- and by what the two files describe
module _ {C : Type 0} (answerer : TableService C → Answerer DefaultScalarValue C TableNode Table)
    (Described : TableService C → Type 0) (Due : RunFault → Type 0) (store : AllowedQueries)
    (bytes : Streams) where
  -- nothing was read and nothing written
  abbrev pub IsUntouched : Type 0
  IsUntouched = (bytes.rest ≡ bytes.left) × (bytes.new ≡ bytes.old)

  -- so it was by the service over the files
  pub record ServesAllowed (ended : Result (Unit {0}) ServeError) (after : Table) : Type 0 where
    pub service : TableService C
    pub described : Described service
    pub answered : AnsweredAllowed answerer store bytes service after ended

  -- what became of the run
  abbrev pub RanAllowed : Result (Unit {0}) RunFault → Type 0
  RanAllowed (Ok x) = (after : Table) × ServesAllowed (Ok x) after
  RanAllowed (Err (fault.Schema e)) = Due (fault.Schema e) × IsUntouched
  RanAllowed (Err fault.NotExecutable) = Due fault.NotExecutable × IsUntouched
  RanAllowed (Err (fault.Data e)) = Due (fault.Data e) × IsUntouched
  RanAllowed (Err fault.OtherBoolean) = Due fault.OtherBoolean × IsUntouched
  RanAllowed (Err (fault.Serve e)) = (after : Table) × ServesAllowed (Err e) after
  RanAllowed (Err fault.Memory) = IsUntouched
