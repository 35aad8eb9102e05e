-- What is added to the errors of a context.
use Rattle.std.specs.Prelude.{◌≡◌, ◌++◌, false, List}
use Rattle.graphql_rule_errors.specs.Places as of_errors
use Rattle.graphql_rule_errors.specs.Places.{Places}
use Rattle.graphql_rule_errors.specs.declared.rule_error.RuleError.{RuleError}
use Rattle.graphql_visitors.specs.declared.context.ValidatorContext.{ValidatorContext}

module _ {S C : Type 0} where
  -- but for its errors, and whether it has failed, a context is as before
  abbrev pub IsAsBefore : ValidatorContext S C → ValidatorContext S C → Type 0
  IsAsBefore c d = d ≡ record c { errors = d.errors; failed = d.failed }

  -- these errors come behind the others, unless memory ran out
  pub record Adds (errors : List RuleError) (c d : ValidatorContext S C) : Type 0 where
    pub as_before : IsAsBefore c d
    pub memory : d.failed ≡ false → c.failed ≡ false
    pub added : d.failed ≡ false → d.errors ≡ c.errors ++ errors

  -- errors at these places come behind the others, which stay as they are
  pub record Reported (told : Places) (c d : ValidatorContext S C) : Type 0 where
    pub memory : c.failed ≡ false
    pub errors : of_errors.Reports told c.errors d.errors

  -- the same, unless memory ran out
  pub record Reports (told : Places) (c d : ValidatorContext S C) : Type 0 where
    pub as_before : IsAsBefore c d
    pub reported : d.failed ≡ false → Reported told c d

  -- the same, at places of which this holds
  pub record ReportsBy (Told : Places → Type 0) (c d : ValidatorContext S C) : Type 0 where
    pub as_before : IsAsBefore c d
    pub reported : d.failed ≡ false → (told : Places) × Told told × Reported told c d
