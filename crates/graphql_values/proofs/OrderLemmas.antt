-- Fields whose names stand in the same order.
use Rattle.std.proofs.Common.{◌≡◌, ℕ, zero, suc, ◌<◌, Bool, List, [], ◌∷◌, length, drop, get_or, ap, sym, subst, refl, ◌∙◌, arith}
use Rattle.std.proofs.lemmas.List.{length-map, get_or-map}
use Rattle.graphql_text.specs.declared.text.Text.{Text}
use Rattle.graphql_values.specs.declared.input_value.InputValue.{InputValue}
use Rattle.graphql_values.specs.InputValues.{Placed, Pair}
use Rattle.graphql_values.specs.SameValue.{SameItems, SameFields, names, values_named, no_items, more_items}
use Rattle.graphql_values.proofs.UnderLemmas.{by_its_name, under_named, under_other}
use Rattle.graphql_values.proofs.SameValueLemmas.{Same, items_from, items_length, items_at}

module _ {A : Type 0} where
  abbrev SameNames : List (Pair A) → List (Pair A) → Type 0
  SameNames ps qs = names ps ≡ names qs

  pub names_from : (ps qs : List (Pair A)) → length ps ≡ length qs → ((k : ℕ) (x y : Pair A) → k < length ps → (get_or ps k x).0.item ≡ (get_or qs k y).0.item) → SameNames ps qs
  names_from [] [] e each = refl
  names_from [] (q ∷ qs) e each = absurd (omega (arith, e))
  names_from (p ∷ ps) [] e each = absurd (omega (arith, e))
  names_from (p ∷ ps) (q ∷ qs) e each = ap (λ n. n ∷ names ps) (each 0 p q (omega arith)) ∙ ap (λ ns. q.0.item ∷ ns) (names_from ps qs (omega (arith, e)) (λ k x y within. each (suc k) x y (omega (arith, within))))

  pub names_length : (ps qs : List (Pair A)) → SameNames ps qs → length ps ≡ length qs
  names_length ps qs same = sym (length-map ps (λ p. p.0.item)) ∙ ap length same ∙ length-map qs (λ p. p.0.item)

  pub names_at : (ps qs : List (Pair A)) → SameNames ps qs → (k : ℕ) (x y : Pair A) → k < length ps → (get_or ps k x).0.item ≡ (get_or qs k y).0.item
  names_at ps qs same k x y within =
      sym (get_or-map (λ (p : Pair A). p.0.item) ps k x x.0.item within) ∙ ap (λ ns. get_or ns k x.0.item) same
      ∙ get_or-map (λ (p : Pair A). p.0.item) qs k y x.0.item (omega (arith, within, names_length ps qs same))

  -- the names that stand at one place
  pub names_here : (ps qs us vs : List (Pair A)) (k : ℕ) (p q : Pair A) → ps ≡ us → qs ≡ vs → k < length ps → p ≡ get_or ps k p → q ≡ get_or qs k q → SameNames us vs → p.0.item ≡ q.0.item
  names_here ps qs us vs k p q left right within is_p is_q same =
      ap (λ z. z.0.item) (is_p ∙ ap (λ zs. get_or zs k p) left) ∙ names_at us vs same k p q (subst (λ zs. k < length zs) left within)
      ∙ sym (ap (λ z. z.0.item) (is_q ∙ ap (λ zs. get_or zs k q) right))

  names_rest : (p q : Pair A) (ps qs : List (Pair A)) → SameNames (p ∷ ps) (q ∷ qs) → SameNames ps qs
  names_rest p q ps qs same = ap (drop 1) same

module _ {S : Type 0} (eq : S → S → Bool) where
  abbrev PlaceByPlace : List (Pair (InputValue S)) → List (Pair (InputValue S)) → Type 0
  PlaceByPlace ps qs = (k : ℕ) (x y : Pair (InputValue S)) → k < length ps → Same eq (get_or ps k x).1.item (get_or qs k y).1.item

  -- with a field more on either side, of one name
  both_more : (p q : Pair (InputValue S)) (ps qs : List (Pair (InputValue S))) → p.0.item ≡ q.0.item → Same eq p.1.item q.1.item → SameFields S eq ps qs → SameFields S eq (p ∷ ps) (q ∷ qs)
  both_more p q ps qs same here rest name = by_its_name p name
      (λ named. subst (λ xs. SameItems S eq xs (values_named name (q ∷ qs))) (sym (under_named name p ps named))
      (subst (SameItems S eq (p.1 ∷ values_named name ps)) (sym (under_named name q qs (sym same ∙ named))) (more_items p.1 q.1 (values_named name ps) (values_named name qs) here (rest name))))
      (λ differs. subst (λ xs. SameItems S eq xs (values_named name (q ∷ qs))) (sym (under_other name p ps differs))
      (subst (SameItems S eq (values_named name ps)) (sym (under_other name q qs (λ named. differs (same ∙ named)))) (rest name)))

  items_rest : (x y : Placed (InputValue S)) (xs ys : List (Placed (InputValue S))) → SameItems S eq (x ∷ xs) (y ∷ ys) → SameItems S eq xs ys
  items_rest x y xs ys same = items_from eq xs ys (omega (arith, items_length eq (x ∷ xs) (y ∷ ys) same)) (λ k a b within. items_at eq (x ∷ xs) (y ∷ ys) same (suc k) a b (omega (arith, within)))

  under_first : (p q : Pair (InputValue S)) (ps qs : List (Pair (InputValue S))) (name : Text) → p.0.item ≡ name → q.0.item ≡ name → SameFields S eq (p ∷ ps) (q ∷ qs) → SameItems S eq (p.1 ∷ values_named name ps) (q.1 ∷ values_named name qs)
  under_first p q ps qs name named other same =
      subst (λ xs. SameItems S eq xs (q.1 ∷ values_named name qs)) (under_named name p ps named) (subst (SameItems S eq (values_named name (p ∷ ps))) (under_named name q qs other) (same name))

  pub both_less : (p q : Pair (InputValue S)) (ps qs : List (Pair (InputValue S))) → p.0.item ≡ q.0.item → SameFields S eq (p ∷ ps) (q ∷ qs) → SameFields S eq ps qs
  both_less p q ps qs alike same name = by_its_name p name
      (λ named. items_rest p.1 q.1 (values_named name ps) (values_named name qs) (under_first p q ps qs name named (sym alike ∙ named) same))
      (λ differs. subst (λ xs. SameItems S eq xs (values_named name qs)) (under_other name p ps differs) (subst (SameItems S eq (values_named name (p ∷ ps))) (under_other name q qs (λ named. differs (alike ∙ named))) (same name)))

  pub fields_from : (ps qs : List (Pair (InputValue S))) → names ps ≡ names qs → PlaceByPlace ps qs → SameFields S eq ps qs
  fields_from [] [] alike each = λ name. no_items
  fields_from [] (q ∷ qs) alike each = absurd (omega (arith, names_length [] (q ∷ qs) alike))
  fields_from (p ∷ ps) [] alike each = absurd (omega (arith, names_length (p ∷ ps) [] alike))
  fields_from (p ∷ ps) (q ∷ qs) alike each = both_more p q ps qs (names_at (p ∷ ps) (q ∷ qs) alike 0 p q (omega arith)) (each 0 p q (omega arith)) (fields_from ps qs (names_rest p q ps qs alike) (λ k x y within. each (suc k) x y (omega (arith, within))))

  fields_at_places : (ps qs : List (Pair (InputValue S))) → names ps ≡ names qs → SameFields S eq ps qs → PlaceByPlace ps qs
  fields_at_places [] qs alike same k x y within = absurd (omega (arith, within))
  fields_at_places (p ∷ ps) [] alike same k x y within = absurd (omega (arith, names_length (p ∷ ps) [] alike))
  fields_at_places (p ∷ ps) (q ∷ qs) alike same zero x y within = items_at eq (p.1 ∷ values_named p.0.item ps) (q.1 ∷ values_named p.0.item qs) (under_first p q ps qs p.0.item refl (sym (names_at (p ∷ ps) (q ∷ qs) alike 0 p q (omega arith))) same) 0 p.1 q.1 (omega arith)
  fields_at_places (p ∷ ps) (q ∷ qs) alike same (suc k) x y within = fields_at_places ps qs (names_rest p q ps qs alike) (both_less p q ps qs (names_at (p ∷ ps) (q ∷ qs) alike 0 p q (omega arith)) same) k x y (omega (arith, within))

  -- the values that stand at one place
  pub fields_here : (ps qs us vs : List (Pair (InputValue S))) (k : ℕ) (p q : Pair (InputValue S)) → ps ≡ us → qs ≡ vs → k < length ps → p ≡ get_or ps k p → q ≡ get_or qs k q → names us ≡ names vs → SameFields S eq us vs → Same eq p.1.item q.1.item
  fields_here ps qs us vs k p q left right within is_p is_q alike same =
      let here : Same eq (get_or us k p).1.item (get_or vs k q).1.item = fields_at_places us vs alike same k p q (subst (λ zs. k < length zs) left within) in
      subst (λ z. Same eq z.1.item q.1.item) (sym (is_p ∙ ap (λ zs. get_or zs k p) left)) (subst (λ z. Same eq (get_or us k p).1.item z.1.item) (sym (is_q ∙ ap (λ zs. get_or zs k q) right)) here)
