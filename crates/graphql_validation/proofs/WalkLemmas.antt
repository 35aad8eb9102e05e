-- What a visitor tells over a document, and what is gathered beside it.
use Rattle.std.proofs.Common.{◌≡◌, List, Result, Ok, Err, OnOk, true, false, sym, ap, ◌∙◌}
use Rattle.std.specs.Result.{is_err}
use Rattle.std.proofs.lemmas.Bool.{false≢true}
use Rattle.graphql_occurrences.specs.Nodes.{Seen}
use Rattle.graphql_rule_errors.specs.Places.{Places}
use Rattle.graphql_visitors.specs.Reports.{ReportsBy}
use Rattle.graphql_visitors.specs.Runs.{VisitorStep, Runs, Visited, joined}
use Rattle.graphql_visitors.specs.Subjects.{subject_of}
use Rattle.graphql_visitors.specs.declared.context.ValidatorContext.{ValidatorContext}

module _ {V S C : Type 0} (step : VisitorStep V S C) where
  -- a visit, after which the context stands where it stood, is a report of what the visitor tells
  pub reports_visited : (P : Places → Type 0) (es : List (Seen S C)) (v w : V) (c d : ValidatorContext S C) → Visited step es v w c d → d.around ≡ c.around
      → ((ts : List Places) → Runs step (subject_of c) v es w ts → P (joined ts)) → ReportsBy P c d
  reports_visited P es v w c d h around told = record {
    as_before = h.as_before ∙ (λ i. record c { around = around i; errors = d.errors; failed = d.failed });
    reported = λ m. let ran = h.ran m in (joined ran.told, told ran.told ran.runs, ran.reported);
  }

-- a context that has failed has not not failed
pub not_failed : {S C : Type 0} (c d : ValidatorContext S C) (P : Type 0) → d ≡ record c { failed = true } → d.failed ≡ false → P
not_failed c d P same m = absurd (let impossible : true ≡ false = sym (ap (λ x. x.failed) same) ∙ m in cc)

-- what holds of a value that there is
pub holds_of_value : {A E : Type 0} (r : Result A E) (P : Type 0) → is_err r ≡ false → OnOk r P → P
holds_of_value (Ok x) P h k = k
holds_of_value (Err e) P h k = absurd (false≢true (sym h))
