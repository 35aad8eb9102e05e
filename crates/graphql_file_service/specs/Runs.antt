-- What is read, answered and written by the service over two files.
use Rattle.std.specs.Prelude.{◌≡◌, ℕ, Bool, true, false, Option, Result, Ok, Err}
use Rattle.graphql_names.specs.Names.{Bytes}
use Rattle.graphql_scalars.specs.declared.default_scalar.DefaultScalarValue.{DefaultScalarValue}
use Rattle.graphql_records.specs.Tables.{Table}
use Rattle.graphql_records.specs.declared.table_node.TableNode.{TableNode}
use Rattle.graphql_service.specs.Answers.{Answerer}
use Rattle.graphql_service.specs.PlainAnswers.{PlainBreaks, PlainGives}
use Rattle.graphql_service.specs.Serving.{AnswersLine, BreaksAtLine}
use Rattle.graphql_streams.specs.Counts.{HasRisen}
use Rattle.graphql_streams.specs.Served.{Ends, ServedAll}
use Rattle.graphql_streams.specs.declared.serve_error.ServeError.{ServeError}
use Rattle.graphql_file_service.specs.TableServices.{TableService}
use Rattle.graphql_file_service.specs.declared.run_fault.RunFault.{RunFault}
use Rattle.graphql_file_service.specs.declared.run_fault.RunFault.TheVariants as fault

-- what a source has before and after, and a sink, where they are known, and how many writes had
-- failed before and after
pub record Streams : Type 0 where
  pub left : Option Bytes
  pub rest : Option Bytes
  pub old : Option Bytes
  pub new : Option Bytes
  pub faults : ℕ
  pub faults_after : ℕ

abbrev pub streams : Option Bytes → Option Bytes → Option Bytes → Option Bytes → ℕ → ℕ → Streams
streams left rest old new faults faults_after =
    record {
      left = left;
      rest = rest;
      old = old;
      new = new;
      faults = faults;
      faults_after = faults_after;
    }

-- how the run ended, as far as lines were answered
abbrev pub served : Result (Unit {0}) RunFault → Result (Unit {0}) ServeError
served (Ok x) = Ok x
served (Err (fault.Serve e)) = Err e
served (Err (fault.Schema e)) = Ok tt
served (Err fault.NotExecutable) = Ok tt
served (Err (fault.Data e)) = Ok tt
served (Err fault.OtherBoolean) = Ok tt
served (Err fault.Memory) = Ok tt

-- what holds where a run came to the end of its input, or by the error at which it ended
abbrev pub Ended : Type 0 → (ServeError → Type 0) → Result (Unit {0}) ServeError → Type 0
Ended all ends (Ok x) = all
Ended all ends (Err e) = ends e

-- by what a service answers
module _ {C : Type 0} (answerer : TableService C → Answerer DefaultScalarValue C TableNode Table)
    (bytes : Streams) where
  -- a write has failed
  abbrev failed : Type 0
  failed = HasRisen bytes.faults bytes.faults_after

  -- each line was answered, or why no more lines were; the records that the lines left
  abbrev pub LinesAnswered : TableService C → Table → Result (Unit {0}) ServeError → Type 0
  LinesAnswered service after =
      Ended (ServedAll (AnswersLine (answerer service)) service.context bytes.left bytes.rest
      bytes.old bytes.new after)
      (λ e. Ends (AnswersLine (answerer service)) (BreaksAtLine (answerer service)) failed e
      service.context bytes.left bytes.rest bytes.old bytes.new after)

  -- each line was told its plain text, or why no more lines were
  abbrev pub ToldPlain : TableService C → Result (Unit {0}) ServeError → Type 0
  ToldPlain service =
      Ended (ServedAll (PlainGives (answerer service) service.selection_limit) tt bytes.left
      bytes.rest bytes.old bytes.new tt)
      (λ e. Ends (PlainGives (answerer service) service.selection_limit)
      (PlainBreaks (answerer service) service.selection_limit) failed e tt
      bytes.left bytes.rest bytes.old bytes.new tt)

  -- the lines were asked for plain texts, which change nothing, or for answers
  abbrev pub Served : Bool → TableService C → Table → Result (Unit {0}) ServeError → Type 0
  Served true service after ended = ToldPlain service ended × (after ≡ service.context)
  Served false service after ended = LinesAnswered service after ended

-- by what a service answers, and by what the two files describe
module _ {C : Type 0} (answerer : TableService C → Answerer DefaultScalarValue C TableNode Table)
    (Described : TableService C → Type 0) (Due : RunFault → Type 0) (bytes : Streams)
    (plain : Bool) where
  -- nothing was read and nothing written
  abbrev pub IsUntouched : Type 0
  IsUntouched = (bytes.rest ≡ bytes.left) × (bytes.new ≡ bytes.old)

  -- the first fault of the files, before a line was read
  abbrev pub RefusesRun : RunFault → Type 0
  RefusesRun e = Due e × IsUntouched

  -- so it was by the service over the files
  pub record Serves (ended : Result (Unit {0}) ServeError) (after : Table) : Type 0 where
    pub service : TableService C
    pub described : Described service
    pub served : Served answerer bytes plain service after ended

  -- what became of the run
  abbrev pub Ran : Result (Unit {0}) RunFault → Type 0
  Ran (Ok x) = (after : Table) × Serves (Ok x) after
  Ran (Err (fault.Schema e)) = RefusesRun (fault.Schema e)
  Ran (Err fault.NotExecutable) = RefusesRun fault.NotExecutable
  Ran (Err (fault.Data e)) = RefusesRun (fault.Data e)
  Ran (Err fault.OtherBoolean) = RefusesRun fault.OtherBoolean
  Ran (Err (fault.Serve e)) = (after : Table) × Serves (Err e) after
  Ran (Err fault.Memory) = IsUntouched
