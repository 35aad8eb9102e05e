-- Reports and runs, one after the other.
use Rattle.std.proofs.Common.{◌≡◌, List, [], ◌∷◌, ◌++◌, true, false, refl, sym, ap, subst, ◌∙◌}
use Rattle.graphql_occurrences.specs.Nodes.{Seen}
use Rattle.graphql_rule_errors.specs.Places as of_errors
use Rattle.graphql_rule_errors.specs.Places.{Places}
use Rattle.graphql_rule_errors.proofs.ReportLemmas as of_errors_lemma
use Rattle.graphql_visitors.specs.Reports.{IsAsBefore, Reported, ReportsBy}
use Rattle.graphql_visitors.specs.Runs.{VisitorStep, Runs, Did, Visited, joined}
use Rattle.graphql_visitors.specs.Subjects.{subject_of, seen_in}
use Rattle.graphql_visitors.specs.declared.context.ValidatorContext.{ValidatorContext}
use Rattle.graphql_occurrences.specs.declared.event.Event.{Event}

module _ {S C : Type 0} where
  pub reported_none : (c : ValidatorContext S C) → c.failed ≡ false → Reported [] c c
  reported_none c h = record { memory = h; errors = of_errors_lemma.reports_none c.errors }

  pub reported_after : (ts us : Places) (a b c : ValidatorContext S C) → Reported ts a b → Reported us b c → Reported (ts ++ us) a c
  reported_after ts us a b c h k = record {
    memory = h.memory;
    errors = of_errors_lemma.reports_more ts us a.errors b.errors c.errors h.errors k.errors;
  }

  pub as_before_after : (a b c : ValidatorContext S C) → IsAsBefore a b → IsAsBefore b c → IsAsBefore a c
  as_before_after a b c h k = k ∙ ap {A = ValidatorContext S C} (λ x. record x { errors = c.errors; failed = c.failed }) h

  -- two reports, one after the other
  pub reports_after : (P Q R : Places → Type 0) (a b c : ValidatorContext S C) → ((ts us : Places) → P ts → Q us → R (ts ++ us)) → ReportsBy P a b → ReportsBy Q b c → ReportsBy R a c
  reports_after P Q R a b c f h k = record {
    as_before = as_before_after a b c h.as_before k.as_before;
    reported = λ m.
        let second = k.reported m in
        let first = h.reported (second.2).memory in
        (first.0 ++ second.0, f first.0 second.0 first.1 second.1, reported_after first.0 second.0 a b c first.2 second.2);
  }

module _ {V S C : Type 0} (step : VisitorStep V S C) where
  pub visited_none : (es : List (Seen S C)) (v : V) (c : ValidatorContext S C) → es ≡ [] → Visited step es v v c c
  visited_none es v c none =
      subst (λ xs. Visited step xs v v c c) (sym none) (record { as_before = refl; ran = λ h. record { told = []; runs = refl; reported = reported_none c h } })

  -- of a context that has failed nothing is promised
  pub visited_failed : (es : List (Seen S C)) (v w : V) (c d : ValidatorContext S C) → d ≡ record c { failed = true } → Visited step es v w c d
  visited_failed es v w c d same =
      record {
        as_before = subst (λ x. x ≡ record c { around = x.around; errors = x.errors; failed = x.failed }) (sym same) refl;
        ran = λ h. absurd (let impossible : true ≡ false = sym (ap {A = ValidatorContext S C} (λ x. x.failed) same) ∙ h in cc);
      }

  -- an event, and then others
  pub visited_after : (e : Event S) (es : List (Seen S C)) (u v w : V) (c a b d : ValidatorContext S C) → a ≡ record c { around = a.around } → Did step e u v a b → Visited step es v w b d → Visited step (seen_in a e ∷ es) u w c d
  visited_after e es u v w c a b d there first rest =
      let before : b ≡ record c { around = b.around; errors = b.errors; failed = b.failed } =
      first.as_before ∙ ap {A = ValidatorContext S C} (λ x. record x { errors = b.errors; failed = b.failed }) there ∙ (λ i. record c { around = ap {A = ValidatorContext S C} (λ x. x.around) (sym first.as_before) i; errors = b.errors; failed = b.failed }) in
      let same : subject_of b ≡ subject_of c = ap subject_of before in
      record {
        as_before = rest.as_before ∙ ap {A = ValidatorContext S C} (λ x. record x { around = d.around; errors = d.errors; failed = d.failed }) before;
        ran = λ h.
            let last = rest.ran h in
            let one = first.reported last.reported.memory in
            let all = reported_after one.0 (joined last.told) a b d one.2 last.reported in
            record {
              told = one.0 ∷ last.told;
              runs = (v, subst (λ s. step s u (seen_in a e) v one.0) (ap subject_of there) one.1, subst (λ s. Runs step s v es w last.told) same last.runs);
              reported = record {
                memory = sym (ap {A = ValidatorContext S C} (λ x. x.failed) there) ∙ all.memory;
                errors = subst (λ es. of_errors.Reports (one.0 ++ joined last.told) es d.errors) (ap {A = ValidatorContext S C} (λ x. x.errors) there) all.errors;
              };
            };
      }
