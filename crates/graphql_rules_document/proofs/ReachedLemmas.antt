-- Errors that a test decides.
use Rattle.std.proofs.Common.{◌≡◌, Bool, List, ap}
use Rattle.graphql_text.specs.declared.position.SourcePosition.{SourcePosition}
use Rattle.graphql_rule_errors.specs.declared.rule_error.RuleError.{RuleError}
use Rattle.graphql_rule_errors.specs.Places.{Reports, error_if}
use Rattle.graphql_rule_errors.proofs.ReportLemmas.{reports_as}

-- an error that a test decides
pub reports_if : (b b' : Bool) (at : List SourcePosition) (old new : List RuleError) → b ≡ b' → Reports (error_if b at) old new → Reports (error_if b' at) old new
reports_if b b' at old new e = reports_as (error_if b at) (error_if b' at) old new (ap (λ c. error_if c at) e)
