-- A value is the same as without its places, and so are two that are alike without them.
use Rattle.std.proofs.Common.{◌≡◌, Bool, List, get_or, map, sym, subst}
use Rattle.std.specs.Cmp.{IsEquivalence}
use Rattle.std.proofs.lemmas.List.{get_or-map, length-map}
use Rattle.std.proofs.lemmas.Simd.{map-map}
use Rattle.graphql_values.specs.declared.input_value.InputValue.{InputValue}
use Rattle.graphql_values.specs.declared.input_value.InputValue.TheVariants as value
use Rattle.graphql_values.specs.InputValues.{Placed, Pair, unplaced, unplaced_pair, unlocated, unlocated_layer}
use Rattle.graphql_values.specs.SameValue.{SameValue, same_list, same_object}
use Rattle.graphql_values.proofs.InputValueEquations.{fold_null, fold_scalar, fold_enum, fold_variable, unlocated_list, unlocated_object}
use Rattle.graphql_values.proofs.InputValueInduction.{value_ind, HoldsOfItems, HoldsOfPairs}
use Rattle.graphql_values.proofs.SameValueLemmas.{Same, items_from}
use Rattle.graphql_values.proofs.OrderLemmas.{fields_from}
use Rattle.graphql_values.proofs.SameValueLaws.{same_as_itself, either_way, by_a_third}

module _ {S : Type 0} where
  -- an item of a list, and a field of an object, without their places
  abbrev pub unlocated_item : Placed (InputValue S) → Placed (InputValue S)
  unlocated_item x = unplaced (unlocated x.item)

  abbrev pub unlocated_pair : Pair (InputValue S) → Pair (InputValue S)
  unlocated_pair p = unplaced_pair (p.0.item, unlocated p.1.item)

module _ {S : Type 0} (eq : S → S → Bool) (laws : IsEquivalence eq) where
  abbrev SameUnlocated : InputValue S → Type 0
  SameUnlocated a = Same eq a (unlocated a)

  same_by : (a b : InputValue S) → unlocated a ≡ b → Same eq a b → SameUnlocated a
  same_by a b is same = subst (λ z. Same eq a z) (sym is) same

  same_leaf : (a : InputValue S) → unlocated a ≡ a → SameUnlocated a
  same_leaf a is = same_by a a is (same_as_itself eq laws a)

  same_items : (xs : List (Placed (InputValue S))) → HoldsOfItems SameUnlocated xs → SameUnlocated (value.List xs)
  same_items xs each =
      let ys = map unlocated_item xs in
      same_by (value.List xs) (value.List ys) (unlocated_list xs) (same_list xs ys
      (items_from eq xs ys (sym (length-map xs unlocated_item)) (λ k x y within.
      subst (λ z. Same eq (get_or xs k x).item z.item) (sym (get_or-map unlocated_item xs k x y within))
      (each k x within))))

  same_pairs : (ps : List (Pair (InputValue S))) → HoldsOfPairs SameUnlocated ps → SameUnlocated (value.Object ps)
  same_pairs ps each =
      let qs = map unlocated_pair ps in
      same_by (value.Object ps) (value.Object qs) (unlocated_object ps) (same_object ps qs
      (fields_from eq ps qs (sym (map-map (λ p. p.0.item) unlocated_pair ps)) (λ k x y within.
      subst (λ z. Same eq (get_or ps k x).1.item z.1.item) (sym (get_or-map unlocated_pair ps k x y within))
      (each k x within))))

  -- a value is the same as without its places
  pub same_unlocated : (a : InputValue S) → SameValue S eq a (unlocated a)
  same_unlocated = value_ind SameUnlocated
      (same_leaf value.Null (fold_null unlocated_layer))
      (λ s. same_leaf (value.Scalar s) (fold_scalar unlocated_layer s))
      (λ n. same_leaf (value.Enum n) (fold_enum unlocated_layer n))
      (λ n. same_leaf (value.Variable n) (fold_variable unlocated_layer n))
      same_items same_pairs

  -- values that are alike without their places are the same
  pub same_without_places : (a b : InputValue S) → unlocated a ≡ unlocated b → SameValue S eq a b
  same_without_places a b is =
      by_a_third eq laws a (unlocated b) b
      (subst (λ z. Same eq a z) is (same_unlocated a))
      (either_way eq laws b (unlocated b) (same_unlocated b))
