-- What the rules of the first stage report.
use Rattle.graphql_schema.specs.Scalars.{Scalars}
use Rattle.std.proofs.Common.{◌≡◌, ◌↔◌, false, List, [], ◌++◌, Result, Ok, Err, OnOk, IfOk, length, sym, ap, subst, ◌∙◌}
use Rattle.std.specs.Prelude.{IsPermutation}
use Rattle.std.proofs.lemmas.List.{length-map, nil_from_length}
use Rattle.std.proofs.lemmas.List.Sorted.{IsPermutation-map, IsPermutation-refl}
use Rattle.graphql_rule_errors.specs.Places.{Places, places}
use Rattle.graphql_rule_errors.specs.declared.rule_error.RuleError.{RuleError}
use Rattle.graphql_rules_document.specs.Scopes.{Scopes}
use Rattle.graphql_visitors.proofs.RunLemmas.{as_before_after, reported_after}
use Rattle.graphql_visitors.specs.Reports.{Reported, Reports, ReportsBy}
use Rattle.graphql_visitors.specs.Subjects.{subject_of}
use Rattle.graphql_visitors.specs.declared.context.ValidatorContext.{ValidatorContext}
use Rattle.graphql_rules_document.specs.AllRules.{document_places}
use Rattle.graphql_validation.specs.FirstStage.{FirstStage, PartsTold, scopes}

module _ {S C : Type 0} where
  -- a report of these places and no others
  pub reports_exactly : (told : Places) (a b : ValidatorContext S C) → ReportsBy (λ ts. ts ≡ told) a b → Reports told a b
  reports_exactly told a b h = record {
    as_before = h.as_before;
    reported = λ m. let r = h.reported m in subst (λ ts. Reported ts a b) r.1 r.2;
  }

  -- the errors of a context that had none, in some order
  pub errors_told : {E : Type 0} (P : Places → Type 0) (a d : ValidatorContext S C) (r : Result (List RuleError) E) → a.errors ≡ [] → ReportsBy P a d → OnOk r (d.failed ≡ false) → IfOk r (IsPermutation d.errors)
      → ((told other : Places) → IsPermutation told other → P told → P other) → IfOk r (λ es. P (places es))
  errors_told P a d (Err e) none h ok p permuted = tt
  errors_told P a d (Ok es) none h ok p permuted =
      let r = h.reported ok in
      let told : places d.errors ≡ r.0 = (r.2).errors.at ∙ ap (λ x. places x ++ r.0) none in
      permuted r.0 (places es) (subst (λ x. IsPermutation x (places es)) told (IsPermutation-map (λ e. e.locations) d.errors es p)) r.1

  module _ (scalars : Scalars S C) where
    -- the rules for one part at a time, and then those for operations and fragments
    pub stage_reported : (a b d : ValidatorContext S C) (held : Scopes S) → ReportsBy (PartsTold scalars (subject_of a)) a b → (b.failed ≡ false → held ≡ scopes (subject_of a))
        → Reports (document_places b.schema.now.types held) b d → ReportsBy (FirstStage scalars (subject_of a)) a d
    stage_reported a b d held h gathered k = record {
      as_before = as_before_after a b d h.as_before k.as_before;
      reported = λ m.
          let second = k.reported m in
          let first = h.reported second.memory in
          let here : Places = document_places b.schema.now.types held in
          let there : Places = document_places (subject_of a).schema.types (scopes (subject_of a)) in
          let same : here ≡ there = (λ i. document_places ((ap {A = ValidatorContext S C} (λ x. x.schema.now.types) h.as_before) i) (gathered second.memory i)) in (
            first.0 ++ here,
            record {
              of_parts = first.0;
              parts_told = first.1;
              all = subst (λ x. IsPermutation (first.0 ++ x) (first.0 ++ here)) same (IsPermutation-refl (first.0 ++ here));
            },
            reported_after first.0 here a b d first.2 second,
          );
    }

-- there is no error exactly where they name no places
pub errors_none : {E : Type 0} (P : Places → Type 0) (Q : Type 0) (r : Result (List RuleError) E) → IfOk r (λ es. P (places es)) → ((told : Places) → P told → (told ≡ []) ↔ Q) → IfOk r (λ es. (es ≡ []) ↔ Q)
errors_none P Q (Err e) h exactly = tt
errors_none P Q (Ok es) h exactly = (
  λ none. (exactly (places es) h).0 (ap places none),
  λ q. nil_from_length es (sym (length-map es (λ e. e.locations)) ∙ ap length ((exactly (places es) h).1 q)),
)
