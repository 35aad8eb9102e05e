-- How going through bundles ends.
use Rattle.std.proofs.Common.{◌≡◌, refl, sym, subst, ◌∙◌, ℕ, Bool, List, [], ◌∷◌, ◌++◌, length, append-nil, inl, inr}
use Rattle.std.specs.List.{Contains}
use Rattle.std.proofs.lemmas.List.Elements.{Contains-append_cases}
use Rattle.graphql_schema.specs.declared.meta.MetaType.{MetaType}
use Rattle.graphql_rule_errors.specs.Places.{Places}
use Rattle.graphql_merging.specs.Pieces.{Pieces}
use Rattle.graphql_merging.proofs.Nested.{in-nothing}
use Rattle.graphql_bundles.specs.Direct.{IsWalked, TellsDirects}
use Rattle.graphql_bundles.specs.Ends.{TellsVisited, IsEnd}
use Rattle.graphql_bundles.specs.Going.{Stage, Grows, IsGoing}
use Rattle.graphql_bundles.proofs.GoingLemmas.{passed-later}
use Rattle.graphql_bundles.proofs.VisitLemmas.{walked-all, direct-among}

module _ {S C : Type 0} (eq : S → S → Bool) (types : List (MetaType S C)) (t : Pieces S C) (definitions : ℕ) where
  -- `sets`: all sets that are come to
  pub visited-told : (sets : List ℕ) (old new : Places) → IsWalked t definitions sets sets → TellsDirects eq types t sets old new
      → TellsVisited t eq types definitions old new
  visited-told sets old new walked tells = record {
    errors = tells.errors;
    told = tells.told;
    found = (λ e i. let r = tells.found e i in (r.0, walked.visited r.0 r.1, r.2));
    all = (λ p v. tells.all p (walked-all t definitions sets walked p v));
  }

  -- nothing is told
  pub ends-untold : (stage : Stage) (errors : Places) → stage.told ≡ errors → errors ≡ [] → IsGoing t eq types definitions (length stage.bundles) stage
      → IsEnd t eq types definitions stage.is_within errors
  ends-untold stage errors are none going = record {
    stage = stage;
    told = are;
    bound = refl;
    going = going;
    directs = (λ some. absurd (some none));
  }

  -- something is, and then of the fields that stand directly in one set
  module _ (stage : Stage) (errors : Places) (tells : TellsVisited t eq types definitions stage.told errors) where
    abbrev After : Stage
    After = record { told = errors; bundles = stage.bundles; is_within = stage.is_within }

    grows : Grows (Contains tells.errors) (λ b. ⊥) stage After
    grows = record {
      errors = tells.errors;
      told = tells.told;
      found = (λ e i. i);
      more = [];
      bundles = sym (append-nil stage.bundles);
      may = (λ b i. in-nothing b i);
      within = (λ e. e);
    }

    pub ends-told : IsGoing t eq types definitions (length stage.bundles) stage → IsEnd t eq types definitions stage.is_within errors
    ends-told going = record {
      stage = After;
      told = refl;
      bound = refl;
      going = record {
        reached = going.reached;
        right = (λ e i. elim (Contains-append_cases stage.told tells.errors e (subst (λ es. Contains es e) tells.told i)) [
          | inl j ↦ going.right e j
          | inr j ↦ (let r = tells.found e j in direct-among t definitions eq types r.0 r.1 e r.2)
        ]);
        begun = going.begun;
        passed = (λ w b i. passed-later eq types t (Contains tells.errors) (λ b. ⊥) stage After grows b (going.passed w b i));
      };
      directs = (λ some. tells.all);
    }

    pub still-told : (stage.told ≡ [] → ⊥) → errors ≡ [] → ⊥
    still-told some none = some (no-first stage.told tells.errors (sym tells.told ∙ none))
      where
        no-first : (xs ys : Places) → xs ++ ys ≡ [] → xs ≡ []
        no-first [] ys e = refl
        no-first (x ∷ xs) ys e = cc
