-- What the rule against introspection tells apart from others.
use Rattle.std.proofs.Common.{◌≡◌, Bool, true, false, cond, List, [], ◌∷◌, ◌++◌, refl, sym, ap, subst, ◌∙◌, append-nil, append_assoc}
use Rattle.std.specs.List.{flat_map}
use Rattle.std.proofs.lemmas.Grind.{flat_map-append}
use Rattle.graphql_occurrences.proofs.TellsDefinitions.{events_told}
use Rattle.graphql_occurrences.specs.Events.{events}
use Rattle.graphql_occurrences.specs.Nodes.{Seen}
use Rattle.graphql_occurrences.specs.PartsOf.{parts_of}
use Rattle.graphql_occurrences.specs.declared.event.Event.{Event}
use Rattle.graphql_rule_errors.proofs.ReportLemmas.{reports_none}
use Rattle.graphql_rule_errors.specs.Places as of_errors
use Rattle.graphql_rule_errors.specs.Places.{Places, places}
use Rattle.graphql_rule_errors.specs.declared.rule_error.RuleError.{RuleError}
use Rattle.graphql_rules.specs.DisableIntrospection.{disable_introspection_faults}
use Rattle.graphql_visitors.proofs.RunLemmas.{reported_none}
use Rattle.graphql_visitors.specs.Reports.{Reports}
use Rattle.graphql_visitors.specs.Rules.{told_at}
use Rattle.graphql_visitors.specs.Runs.{Did, Runs, joined}
use Rattle.graphql_visitors.specs.Subjects.{Subject, seen_in, subject_of}
use Rattle.graphql_visitors.specs.declared.context.ValidatorContext.{ValidatorContext}
use Rattle.graphql_validation.specs.Apart.{keeps_apart, told_if_asked, asked_places}
use Rattle.graphql_validation.specs.declared.introspection.Introspection.{Introspection}

module _ {S C : Type 0} where
  -- where it is not asked, nothing happens
  pub not_asked : (e : Event S) (v : Introspection) (c : ValidatorContext S C) → v.is_asked ≡ false → Did keeps_apart e v v c c
  not_asked e v c is = record {
    as_before = refl;
    reported = λ m. ([], (refl, refl, sym (ap (λ b. places v.errors ++ told_if_asked b (subject_of c) (seen_in c e)) is ∙ append-nil (places v.errors))), reported_none c m);
  }

  -- where it is, its errors stand in the context for as long as it tells more
  module _ (e : Event S) (v w : Introspection) (a b c d : ValidatorContext S C) (held : List RuleError)
      (out : b ≡ record a { errors = v.errors }) (kept : held ≡ a.errors) (told : Reports (told_at disable_introspection_faults (subject_of b) (seen_in b e)) b c)
      (back : d ≡ record c { errors = held }) (is_asked : v.is_asked ≡ true) (same : w.is_asked ≡ v.is_asked) (own : w.errors ≡ c.errors) where
    as_it_was : d ≡ record a { errors = d.errors; failed = d.failed }
    as_it_was =
        back
        ∙ ap {A = ValidatorContext S C} (λ x. record x { errors = held }) told.as_before
        ∙ ap {A = ValidatorContext S C} (λ x. record x { errors = held; failed = c.failed }) out
        ∙ (λ i. record a { errors = ap {A = ValidatorContext S C} (λ x. x.errors) (sym back) i; failed = ap {A = ValidatorContext S C} (λ x. x.failed) (sym back) i })

    pub asked : Did keeps_apart e v w a d
    asked = record {
      as_before = as_it_was;
      reported = λ m.
          let r = told.reported (sym (ap {A = ValidatorContext S C} (λ x. x.failed) back) ∙ m) in (
            [],
            (
              refl,
              same,
              ap places own ∙ r.errors.at ∙ ap {A = ValidatorContext S C} (λ x. places x.errors ++ told_at disable_introspection_faults (subject_of x) (seen_in x e)) out
                  ∙ ap (λ q. places v.errors ++ told_if_asked q (subject_of a) (seen_in a e)) (sym is_asked),
            ),
            record {
              memory = sym (ap {A = ValidatorContext S C} (λ x. x.failed) out) ∙ r.memory;
              errors = subst (of_errors.Reports [] a.errors) (sym (ap {A = ValidatorContext S C} (λ x. x.errors) back ∙ kept)) (reports_none a.errors);
            },
          );
    }

  module _ (subject : Subject S C) where
    asked_over : Bool → List (Seen S C) → Places
    asked_over q es = cond q (flat_map (disable_introspection_faults subject) (flat_map parts_of es)) []

    asked_more : (q : Bool) (e : Seen S C) (es : List (Seen S C)) → told_if_asked q subject e ++ asked_over q es ≡ asked_over q (e ∷ es)
    unfolding asked_over
    asked_more true e es = sym (flat_map-append (disable_introspection_faults subject) (parts_of e) (flat_map parts_of es))
    asked_more false e es = refl

    none_over : (q : Bool) → [] ≡ asked_over q []
    unfolding asked_over
    none_over true = refl
    none_over false = refl

    -- over events it reports nothing
    pub apart_silent : (v w : Introspection) (es : List (Seen S C)) (ts : List Places) → Runs keeps_apart subject v es w ts → joined ts ≡ []
    apart_silent v w [] [] h = refl
    apart_silent v w [] (t ∷ ts) h = absurd h
    apart_silent v w (e ∷ es) [] h = absurd h
    apart_silent v w (e ∷ es) (t ∷ ts) h = ap (λ z. z ++ joined ts) (h.1).0 ∙ apart_silent h.0 w es ts h.2

    apart_kept : (v w : Introspection) (es : List (Seen S C)) (ts : List Places) → Runs keeps_apart subject v es w ts → places w.errors ≡ places v.errors ++ asked_over v.is_asked es
    apart_kept v w [] [] h = ap {A = Introspection} (λ x. places x.errors) h ∙ sym (append-nil (places v.errors)) ∙ ap (λ z. places v.errors ++ z) (none_over v.is_asked)
    apart_kept v w [] (t ∷ ts) h = absurd h
    apart_kept v w (e ∷ es) [] h = absurd h
    apart_kept v w (e ∷ es) (t ∷ ts) h =
        let u = h.0 in
        apart_kept u w es ts h.2
        ∙ ap (λ q. places u.errors ++ asked_over q es) (h.1).1
        ∙ ap (λ z. z ++ asked_over v.is_asked es) (h.1).2
        ∙ append_assoc (places v.errors) (told_if_asked v.is_asked subject e) (asked_over v.is_asked es)
        ∙ ap (λ z. places v.errors ++ z) (asked_more v.is_asked e es)

    over_document : (q : Bool) → asked_over q (events subject.schema subject.document) ≡ asked_places q subject
    unfolding asked_over
    over_document true = ap (flat_map (disable_introspection_faults subject)) (events_told subject.schema subject.document)
    over_document false = refl

    -- and keeps what it tells of them
    pub kept_of_document : (q : Bool) (v w : Introspection) (ts : List Places) → v ≡ record { is_asked = q; errors = [] } → Runs keeps_apart subject v (events subject.schema subject.document) w ts
        → places w.errors ≡ asked_places q subject
    kept_of_document q v w ts made runs =
        apart_kept v w (events subject.schema subject.document) ts runs
        ∙ ap {A = Introspection} (λ x. places x.errors ++ asked_over x.is_asked (events subject.schema subject.document)) made
        ∙ over_document q
