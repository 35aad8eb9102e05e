-- What the visitor of a rule over all operations and fragments tells over a document.
use Rattle.std.proofs.Common.{◌≡◌, true, false, List, [], ◌∷◌, ◌++◌, None, refl, sym, ap, ◌∙◌, append-nil}
use Rattle.graphql_occurrences.specs.Events.{events, seen_event, top}
use Rattle.graphql_occurrences.specs.Nodes.{AtDocument, Enter, Seen}
use Rattle.graphql_occurrences.specs.declared.event.Event.{Event}
use Rattle.graphql_rule_errors.specs.Places.{Places}
use Rattle.graphql_rules_document.specs.Once.{ScopeRule, once, said_of, told_by}
use Rattle.graphql_rules_document.specs.declared.once.Once.{Once}
use Rattle.graphql_visitors.proofs.RunLemmas.{reported_none}
use Rattle.graphql_visitors.specs.Reports.{Reports}
use Rattle.graphql_visitors.specs.Runs.{Did, Runs, joined}
use Rattle.graphql_visitors.specs.Subjects.{Subject, subject_of}
use Rattle.graphql_visitors.specs.declared.context.ValidatorContext.{ValidatorContext}

module _ {S C R : Type 0} (says : ScopeRule S C) where
  -- a visitor that has asked its rule tells nothing
  pub asked_before : (e : Event S) (v : Once R) (c : ValidatorContext S C) → v.is_asked ≡ true → Did (once says) e v v c c
  asked_before e v c asked = record {
    as_before = refl;
    reported = λ m.
        let still : v ≡ record v { is_asked = true } = (λ i. record v { is_asked = asked i }) in
        ([], (still, sym (ap (told_by says (subject_of c)) asked)), reported_none c m);
  }

  -- one that has not tells what the rule says of the document
  pub asked_first : (e : Event S) (v w : Once R) (c d : ValidatorContext S C) → v.is_asked ≡ false → w ≡ record v { is_asked = true }
      → Reports (said_of says (subject_of c)) c d → Did (once says) e v w c d
  asked_first e v w c d fresh asked h = record {
    as_before = h.as_before;
    reported = λ m. (said_of says (subject_of c), (asked, sym (ap (told_by says (subject_of c)) fresh)), h.reported m);
  }

  module _ (subject : Subject S C) where
    asked_tells_nothing : (v w : Once R) (es : List (Seen S C)) (ts : List Places) → v.is_asked ≡ true
        → Runs (once says) subject v es w ts → joined ts ≡ []
    asked_tells_nothing v w [] [] asked runs = refl
    asked_tells_nothing v w [] (t ∷ ts) asked runs = absurd runs
    asked_tells_nothing v w (e ∷ es) [] asked runs = absurd runs
    asked_tells_nothing v w (e ∷ es) (t ∷ ts) asked runs =
        let none : t ≡ [] = (runs.1).1 ∙ ap (told_by says subject) asked in
        let still : (runs.0).is_asked ≡ true = ap {A = Once R} (λ x. x.is_asked) (runs.1).0 in
        (λ i. none i ++ asked_tells_nothing runs.0 w es ts still runs.2 i)

    told_at_first : (v w : Once R) (e : Seen S C) (es : List (Seen S C)) (ts : List Places) → v.is_asked ≡ false
        → Runs (once says) subject v (e ∷ es) w ts → joined ts ≡ said_of says subject
    told_at_first v w e es [] fresh runs = absurd runs
    told_at_first v w e es (t ∷ ts) fresh runs =
        let still : (runs.0).is_asked ≡ true = ap {A = Once R} (λ x. x.is_asked) (runs.1).0 in
        ap (λ x. t ++ x) (asked_tells_nothing runs.0 w es ts still runs.2) ∙ append-nil t ∙ (runs.1).1 ∙ ap (told_by says subject) fresh

    -- over a document, it tells just that
    pub told_over_document : (v w : Once R) (ts : List Places) → v.is_asked ≡ false
        → Runs (once says) subject v (events subject.schema subject.document) w ts → joined ts ≡ said_of says subject
    unfolding events
    told_over_document v w ts fresh runs = told_at_first v w (seen_event (top None) (Enter (AtDocument subject.document))) _ ts fresh runs
