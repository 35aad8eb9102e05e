-- Objects in which no name stands twice are the same if equally many fields have their likes.
use Rattle.std.proofs.Common.{◌≡◌, ◌≢◌, ℕ, zero, suc, ◌<◌, Bool, List, [], ◌∷◌, length, get_or, slice_get, MatchOption, ap, sym, subst, refl, ◌∙◌, arith}
use Rattle.std.specs.List.{Any, All}
use Rattle.graphql_text.specs.declared.text.Text.{Text}
use Rattle.graphql_values.specs.declared.input_value.InputValue.{InputValue}
use Rattle.graphql_values.specs.declared.input_value.InputValue.TheVariants as value
use Rattle.graphql_values.specs.InputValues.{Placed, Pair}
use Rattle.graphql_values.specs.Laws.{SameByUniqueNames}
use Rattle.graphql_values.specs.SameValue.{SameFields, UniqueNames, values_named, same_object}
use Rattle.graphql_values.proofs.UnderLemmas.{by_its_name, under_named, under_other}
use Rattle.graphql_values.proofs.SameValueLemmas.{Same, AllLead, Leads, level_of, get_or_any, fields_length, fields_fit, fields_at}

further : {X : Type 0} (P : X → Type 0) (x : X) (xs : List X) → Any P xs → Any P (x ∷ xs)
further P x xs any = (suc any.0, any.1, omega (arith, any.2), any.3, any.4)

module _ {A : Type 0} where
  -- what stands under a name stands in a field of the name
  module _ (P : Placed A → Type 0) (name : Text) where
    abbrev IsIn : Pair A → Type 0
    IsIn q = (name ≡ q.0.item) × P q.1

    abbrev HasAt : List (Placed A) → ℕ → Type 0
    HasAt xs n = MatchOption (slice_get xs n) ⊥ P

    in_a_field : (qs : List (Pair A)) (n : ℕ) → HasAt (values_named name qs) n → Any IsIn qs
    in_a_field [] n has = absurd has
    in_a_field (q ∷ qs) zero has = by_its_name q name
        (λ named. (0, q, omega arith, refl, (sym named, subst (λ xs. HasAt xs 0) (under_named name q qs named) has)))
        (λ differs. further IsIn q qs (in_a_field qs 0 (subst (λ xs. HasAt xs 0) (under_other name q qs differs) has)))
    in_a_field (q ∷ qs) (suc n) has = by_its_name q name
        (λ named. further IsIn q qs (in_a_field qs n (subst (λ xs. HasAt xs (suc n)) (under_named name q qs named) has)))
        (λ differs. further IsIn q qs (in_a_field qs (suc n) (subst (λ xs. HasAt xs (suc n)) (under_other name q qs differs) has)))

  none_under : (name : Text) (ps : List (Pair A)) → All (λ p. p.0.item ≢ name) ps → values_named name ps ≡ []
  none_under name [] each = refl
  none_under name (p ∷ ps) each = under_other name p ps (each 0 p (omega arith)) ∙ none_under name ps (λ k d within. each (suc k) d (omega (arith, within)))

  -- a field's value stands alone under its name
  alone : (ps : List (Pair A)) → UniqueNames ps → (k : ℕ) (p : Pair A) → k < length ps → get_or ps k p ≡ p → values_named p.0.item ps ≡ p.1 ∷ []
  alone [] unique k p within is = absurd (omega (arith, within))
  alone (q ∷ ps) unique zero p within is =
      ap (λ z. values_named p.0.item (z ∷ ps)) is ∙ under_named p.0.item p ps refl
      ∙ ap (λ xs. p.1 ∷ xs) (none_under p.0.item ps (λ k d inside named. unique 0 (suc k) d (omega arith) (omega (arith, inside)) (ap (λ z. z.0.item) is ∙ sym named)))
  alone (q ∷ ps) unique (suc k) p within is =
      under_other p.0.item q ps (λ named. unique 0 (suc k) p (omega arith) (omega (arith, within)) (named ∙ ap (λ z. z.0.item) (sym is)))
      ∙ alone ps (λ i j d before inside. unique (suc i) (suc j) d (omega (arith, before)) (omega (arith, inside))) k p (omega (arith, within)) is

module _ {S : Type 0} (eq : S → S → Bool) where
  abbrev IsLike : Pair (InputValue S) → Pair (InputValue S) → Type 0
  IsLike p q = (p.0.item ≡ q.0.item) × Same eq p.1.item q.1.item

  lead_alone : (ps qs : List (Pair (InputValue S))) → UniqueNames ps → UniqueNames qs → All (λ p. Any (IsLike p) qs) ps → AllLead eq ps qs
  lead_alone [] qs unique others each name = tt
  lead_alone (p ∷ ps) qs unique others each name = by_its_name p name
      (λ named.
      let like : Any (IsLike p) qs = each 0 p (omega arith) in
      let here : values_named name (p ∷ ps) ≡ p.1 ∷ [] = ap (λ n. values_named n (p ∷ ps)) (sym named) ∙ alone (p ∷ ps) unique 0 p (omega arith) refl in
      let there : values_named name qs ≡ like.1.1 ∷ [] = ap (λ n. values_named n qs) (sym named ∙ like.4.0) ∙ alone qs others like.0 like.1 like.2 like.3 in
      subst (λ xs. Leads eq xs (values_named name qs)) (sym here) (subst (Leads eq (p.1 ∷ [])) (sym there) (like.4.1, tt)))
      (λ differs. subst (λ xs. Leads eq xs (values_named name qs)) (sym (under_other name p ps differs))
      (lead_alone ps qs (λ i j d before inside. unique (suc i) (suc j) d (omega (arith, before)) (omega (arith, inside))) others (λ k d within. each (suc k) d (omega (arith, within))) name))

  likes_of : (ps qs : List (Pair (InputValue S))) → SameFields S eq ps qs → All (λ p. Any (IsLike p) qs) ps
  likes_of ps qs same k d within =
      let p = get_or ps k d in
      in_a_field (λ y. Same eq p.1.item y.item) p.0.item qs _ (fields_at eq ps ps qs refl k p within (get_or_any ps k d p within) _ refl same)

  pub by_unique_names : SameByUniqueNames eq
  by_unique_names ps qs unique others = (
    λ s. let same = level_of eq (value.Object ps) (value.Object qs) _ _ (value.outs-Object ps) (value.outs-Object qs) s in (fields_length eq ps qs same, likes_of ps qs same),
    λ h. same_object ps qs (fields_fit eq ps qs h.0 (lead_alone ps qs unique others h.1)),
  )
