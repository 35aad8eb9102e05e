-- What a part of an execution gives, and what it adds to a report.
use Rattle.std.specs.Prelude.{◌≡◌, ◌++◌, Option}
use Rattle.graphql_semantics.specs.Outcomes.{Outcome}
use Rattle.graphql_execution_walk.specs.declared.report.Report.{Report}

-- the value of an outcome; the report stands where it stood, and has the failures added
pub record GivesOutcome {S A : Type 0} (o : Outcome S A) (old : Report S) (value : Option A)
    (new : Report S) : Type 0 where
  pub is : value ≡ o.value
  pub path : new.path ≡ old.path
  pub errors : new.errors ≡ old.errors ++ o.failures
