-- What a visitor of the rule tells over a document.
use Rattle.std.proofs.Common.{◌≡◌, ℕ, Bool, true, false, List, [], ◌∷◌, ◌++◌, None, refl, sym, ap, subst, ◌∙◌, append-nil}
use Rattle.graphql_occurrences.specs.Events.{events, seen_event, top}
use Rattle.graphql_occurrences.specs.Nodes.{AtDocument, Enter, Seen}
use Rattle.graphql_rule_errors.specs.declared.rule_error.RuleError.{RuleError}
use Rattle.graphql_rule_errors.specs.Places.{Places, places}
use Rattle.graphql_visitors.proofs.ReportLemmas.{reports_added}
use Rattle.graphql_visitors.proofs.RunLemmas.{reported_none}
use Rattle.graphql_visitors.specs.Reports.{Adds, ReportsBy}
use Rattle.graphql_visitors.specs.Runs.{Runs, joined}
use Rattle.graphql_visitors.specs.Subjects.{Subject, subject_of}
use Rattle.graphql_visitors.specs.declared.context.ValidatorContext.{ValidatorContext}
use Rattle.graphql_rules_merging.specs.OverlappingFieldsCanBeMerged.{CountedBy, IsCounted, RuleTold, ToldBy, asks_once}
use Rattle.graphql_rules_merging.specs.declared.overlapping_fields_can_be_merged.OverlappingFieldsCanBeMerged.{OverlappingFieldsCanBeMerged}

-- errors that are added are reported, where this holds of their places
pub reported_by : {S C : Type 0} (P : Places → Type 0) (errors : List RuleError) (a b : ValidatorContext S C) → P (places errors) → Adds errors a b → ReportsBy P a b
reported_by P errors a b p h = let r = reports_added errors (places errors) a b refl h in record { as_before = r.as_before; reported = λ m. (places errors, p, r.reported m) }

module _ {S C : Type 0} (eq : S → S → Bool) where
  -- a visitor that has not asked the rule yet tells and counts what the rule does
  pub asked_first : (a b : ValidatorContext S C) (v w : Bool) (m n : ℕ) → v ≡ false → w ≡ true
      → ReportsBy (λ told. RuleTold eq (subject_of a) told × IsCounted (subject_of a) m n) a b
      → ReportsBy (λ told. (w ≡ true) × ToldBy eq (subject_of a) v told × CountedBy (subject_of a) v m n) a b
  asked_first a b v w m n fresh asked h = record {
    as_before = h.as_before;
    reported = λ safe. let r = h.reported safe in (
      r.0,
      (asked, subst (λ x. ToldBy eq (subject_of a) x r.0) (sym fresh) (r.1).0, subst (λ x. CountedBy (subject_of a) x m n) (sym fresh) (r.1).1),
      r.2,
    );
  }

  -- one that has asked it tells nothing, and counts nothing
  pub asked_before : (a : ValidatorContext S C) (v : Bool) (m : ℕ) → v ≡ true
      → ReportsBy (λ told. (v ≡ true) × ToldBy eq (subject_of a) v told × CountedBy (subject_of a) v m m) a a
  asked_before a v m asked = record {
    as_before = refl;
    reported = λ safe. (
      [],
      (asked, subst (λ x. ToldBy eq (subject_of a) x []) (sym asked) refl, subst (λ x. CountedBy (subject_of a) x m m) (sym asked) refl),
      reported_none a safe,
    );
  }

  -- what is told and counted is told
  pub told_alone : (a b : ValidatorContext S C) (m n : ℕ) → ReportsBy (λ told. RuleTold eq (subject_of a) told × IsCounted (subject_of a) m n) a b
      → ReportsBy (RuleTold eq (subject_of a)) a b
  told_alone a b m n h = record {
    as_before = h.as_before;
    reported = λ safe. let r = h.reported safe in (r.0, (r.1).0, r.2);
  }

module _ {S C : Type 0} (eq : S → S → Bool) (subject : Subject S C) where
  asked_tells_nothing : (v w : OverlappingFieldsCanBeMerged) (es : List (Seen S C)) (ts : List Places) → v.is_asked ≡ true → Runs (asks_once eq) subject v es w ts → joined ts ≡ []
  asked_tells_nothing v w [] [] asked runs = refl
  asked_tells_nothing v w [] (t ∷ ts) asked runs = absurd runs
  asked_tells_nothing v w (e ∷ es) [] asked runs = absurd runs
  asked_tells_nothing v w (e ∷ es) (t ∷ ts) asked runs =
      let none : t ≡ [] = subst (λ b. ToldBy eq subject b t) asked (runs.1).1 in
      (λ i. none i ++ asked_tells_nothing runs.0 w es ts (runs.1).0 runs.2 i)

  told_at_first : (v w : OverlappingFieldsCanBeMerged) (e : Seen S C) (es : List (Seen S C)) (ts : List Places) → v.is_asked ≡ false → Runs (asks_once eq) subject v (e ∷ es) w ts → RuleTold eq subject (joined ts)
  told_at_first v w e es [] fresh runs = absurd runs
  told_at_first v w e es (t ∷ ts) fresh runs =
      let all : t ++ joined ts ≡ t = ap (λ x. t ++ x) (asked_tells_nothing runs.0 w es ts (runs.1).0 runs.2) ∙ append-nil t in
      subst (RuleTold eq subject) (sym all) (subst (λ b. ToldBy eq subject b t) fresh (runs.1).1)

  pub told_over_document : (v w : OverlappingFieldsCanBeMerged) (ts : List Places) → v.is_asked ≡ false → Runs (asks_once eq) subject v (events subject.schema subject.document) w ts → RuleTold eq subject (joined ts)
  unfolding events
  told_over_document v w ts fresh runs = told_at_first v w (seen_event (top None) (Enter (AtDocument subject.document))) _ ts fresh runs

  same_count : (v w : OverlappingFieldsCanBeMerged) (es : List (Seen S C)) (ts : List Places) → v.is_asked ≡ true → Runs (asks_once eq) subject v es w ts → w.comparisons ≡ v.comparisons
  same_count v w [] [] asked runs = ap (λ (x : OverlappingFieldsCanBeMerged). x.comparisons) runs
  same_count v w [] (t ∷ ts) asked runs = absurd runs
  same_count v w (e ∷ es) [] asked runs = absurd runs
  same_count v w (e ∷ es) (t ∷ ts) asked runs =
      same_count runs.0 w es ts (runs.1).0 runs.2 ∙ subst (λ b. CountedBy subject b v.comparisons (runs.0).comparisons) asked (runs.1).2

  counted_at_first : (v w : OverlappingFieldsCanBeMerged) (e : Seen S C) (es : List (Seen S C)) (ts : List Places) → v.is_asked ≡ false
      → Runs (asks_once eq) subject v (e ∷ es) w ts → IsCounted subject v.comparisons w.comparisons
  counted_at_first v w e es [] fresh runs = absurd runs
  counted_at_first v w e es (t ∷ ts) fresh runs =
      subst (IsCounted subject v.comparisons) (sym (same_count runs.0 w es ts (runs.1).0 runs.2))
      (subst (λ b. CountedBy subject b v.comparisons (runs.0).comparisons) fresh (runs.1).2)

  pub counted_over_document : (v w : OverlappingFieldsCanBeMerged) (ts : List Places) → v.is_asked ≡ false
      → Runs (asks_once eq) subject v (events subject.schema subject.document) w ts → IsCounted subject v.comparisons w.comparisons
  unfolding events
  counted_over_document v w ts fresh runs = counted_at_first v w (seen_event (top None) (Enter (AtDocument subject.document))) _ ts fresh runs
