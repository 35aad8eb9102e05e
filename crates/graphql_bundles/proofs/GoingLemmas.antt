-- One bundle more is gone through.
use Rattle.std.proofs.Common.{◌≡◌, sym, subst, ◌∙◌, arith, ℕ, ◌+◌, Bool, List, [], ◌∷◌, ◌++◌, take, length, get_or, inl, inr}
use Rattle.std.specs.List.{All, Contains}
use Rattle.std.proofs.lemmas.List.{take_all}
use Rattle.std.proofs.lemmas.List.Elements.{Contains-get_or, Contains-append_left}
use Rattle.graphql_values.specs.Laws.{SameByAThird}
use Rattle.graphql_text.specs.declared.position.SourcePosition.{SourcePosition}
use Rattle.graphql_schema.specs.declared.meta.MetaType.{MetaType}
use Rattle.graphql_rule_errors.specs.Places.{Places}
use Rattle.graphql_merging.specs.Done.{IsTold}
use Rattle.graphql_merging.specs.Pieces.{Pieces}
use Rattle.graphql_bundles.specs.Bundles.{Bundle, BundleGroup, IsGathered, IsGroupPassed, IsPassed}
use Rattle.graphql_merging.proofs.Contracts.{done-meets}
use Rattle.graphql_bundles.proofs.Bundled.{found-is-told, bundles-meet-contract}
use Rattle.graphql_bundles.specs.Laws.{GoingMeetsContract}
use Rattle.graphql_bundles.specs.Going.{Stage, Grows}

no-first : (xs ys : Places) → xs ++ ys ≡ [] → xs ≡ []
no-first [] ys e = λ i. []
no-first (x ∷ xs) ys e = cc

module _ {S C : Type 0} (eq : S → S → Bool) (types : List (MetaType S C)) (t : Pieces S C) where
  pub gathered-later : (old new : List Bundle) (x : Bool) (P : ℕ → Type 0) → ((b : Bundle) → Contains old b → Contains new b) → IsGathered t old x P → IsGathered t new x P
  gathered-later old new x P still (inl v) = inl v
  gathered-later old new x P still (inr b) = inr (b.0, still b.0 b.1, b.2, b.3)

  module _ (Found : List SourcePosition → Type 0) (May : Bundle → Type 0) (old new : Stage) (grows : Grows Found May old new) where
    pub still : (b : Bundle) → Contains old.bundles b → Contains new.bundles b
    still b i = subst (λ bs. Contains bs b) (sym grows.bundles) (Contains-append_left old.bundles grows.more b i)

    pub group-later : (x : Bool) (group : BundleGroup S C) → IsGroupPassed t eq types old.bundles old.told x group
        → IsGroupPassed t eq types new.bundles new.told x group
    group-later x group p = record {
      begun = (λ part j. gathered-later old.bundles new.bundles part.around _ still (p.begun part j));
      alike = (λ none. p.alike (no-first old.told grows.errors (sym grows.told ∙ none)));
    }

    -- what was gone through stays so
    pub passed-later : (b : Bundle) → IsPassed t eq types old.bundles old.told b → IsPassed t eq types new.bundles new.told b
    passed-later b p = record {
      groups = p.groups;
      grouped = p.grouped;
      of = p.of;
      each = (λ group i. group-later b.around group (p.each group i));
    }

pub going-meets-contract : (S C : Type 0) (eq : S → S → Bool) → SameByAThird eq → GoingMeetsContract S C eq
going-meets-contract S C eq third types t roots definitions stage owns root numbered h end directs = elim end [
  | inl within ↦ bundles-meet-contract S C eq third types roots t stage.bundles stage.told owns
      (λ set i. let k = numbered set i in (k.0, k.2, h.begun within k.0 k.1))
      (λ b i. h.passed within b (subst (λ bs. Contains bs b) (sym (whole stage.bundles)) i)) told directs
  | inr some ↦ done-meets S C eq types roots t (λ p q x. Unit {0}) stage.told (record {
    owns = owns;
    pieces = (λ set i. let k = numbered set i in (k.0, k.2, tt));
    told = told;
    directs = directs;
    settled = (λ none. absurd (some none));
  })
]
  where
    whole : (bs : List Bundle) → take (length bs) bs ≡ bs
    whole bs = take_all (length bs) bs (omega arith)

    told : All (IsTold eq types roots) stage.told
    told k d within = found-is-told S C eq types t definitions roots owns root (get_or stage.told k d) (h.right (get_or stage.told k d) (Contains-get_or stage.told k d within))
