-- How many values stand in a list and in an object, and in what is left of them where a part is taken out.
use Rattle.std.proofs.Common.{◌≡◌, Bool, false, ℕ, ◌+◌, ◌<◌, List, [], ◌∷◌, ◌++◌, map, length, get_or, set, refl, ap, ◌∙◌, arith}
use Rattle.std.specs.Prelude.{IsTrue}
use Rattle.std.specs.List.{sum_by}
use Rattle.std.proofs.lemmas.List.Folds.{fold-map}
use Rattle.std.proofs.lemmas.List.Sums.{sum_by-set, sum_by_push}
use Rattle.graphql_values.specs.declared.input_value.InputValue.{InputValue}
use Rattle.graphql_values.specs.declared.input_value.InputValue.TheVariants as value
use Rattle.graphql_values.specs.InputValues.{Placed, Pair}
use Rattle.graphql_values.specs.Counts.{value_count, count_layer}
use Rattle.graphql_values.proofs.SameValueLemmas.{refuted}
use Rattle.graphql_values.proofs.InputValueEquations.{on_item, on_value, fold_list, fold_object}

pub sum_by-map : {X Y : Type 0} (f : Y → ℕ) (g : X → Y) (xs : List X) → sum_by f (map g xs) ≡ sum_by (λ x. f (g x)) xs
sum_by-map f g xs = fold-map (λ sum y. sum + f y) g 0 xs

-- a list that is told not to be empty has a first item
pub has_first : {X : Type 0} (xs : List X) (empty : Bool) → (xs ≡ [] → IsTrue empty) → empty ≡ false → 0 < length xs
has_first [] empty tells isnt = refuted empty isnt (tells refl)
has_first (x ∷ xs) empty tells isnt = omega arith

module _ {S : Type 0} where
  -- of an item, and of a field
  abbrev pub item_count : Placed (InputValue S) → ℕ
  item_count x = value_count x.item

  abbrev pub field_count : Pair (InputValue S) → ℕ
  field_count p = value_count p.1.item

  pub count_list : (xs : List (Placed (InputValue S))) → value_count (value.List xs) ≡ 1 + sum_by item_count xs
  count_list xs = fold_list count_layer xs ∙ ap (λ n. 1 + n) (sum_by-map (λ x. x.item) (on_item value_count) xs)

  pub count_object : (ps : List (Pair (InputValue S))) → value_count (value.Object ps) ≡ 1 + sum_by field_count ps
  count_object ps = fold_object count_layer ps ∙ ap (λ n. 1 + n) (sum_by-map (λ p. p.1.item) (on_value value_count) ps)

  -- a list is one value more than it is without its last item, and those within that item
  pub without_last_item : (xs rest : List (Placed (InputValue S))) (last : Placed (InputValue S)) → xs ≡ rest ++ last ∷ [] → value_count (value.List xs) ≡ value_count last.item + value_count (value.List rest)
  without_last_item xs rest last is = omega (arith, count_list xs, count_list rest, ap (sum_by item_count) is, sum_by_push item_count rest last)

  pub without_last_field : (ps rest : List (Pair (InputValue S))) (last : Pair (InputValue S)) → ps ≡ rest ++ last ∷ [] → value_count (value.Object ps) ≡ value_count last.1.item + value_count (value.Object rest)
  without_last_field ps rest last is = omega (arith, count_object ps, count_object rest, ap (sum_by field_count) is, sum_by_push field_count rest last)

  -- the first item of a list, and the list with another value in its place
  pub with_first_item : (v other : InputValue S) (xs : List (Placed (InputValue S))) (x : Placed (InputValue S)) → v ≡ value.List xs → 0 < length xs → x ≡ get_or xs 0 x → value_count x.item + value_count (value.List (set xs 0 (record { item = other; span = x.span }))) ≡ value_count v + value_count other
  with_first_item v other xs x is some first =
      let y : Placed (InputValue S) = record { item = other; span = x.span } in
      omega (arith, ap value_count is, count_list xs, count_list (set xs 0 y), sum_by-set item_count xs 0 y x some, ap item_count first)

  pub with_first_field : (v other : InputValue S) (ps : List (Pair (InputValue S))) (p : Pair (InputValue S)) → v ≡ value.Object ps → 0 < length ps → p ≡ get_or ps 0 p → value_count p.1.item + value_count (value.Object (set ps 0 (p.0, record { item = other; span = p.1.span }))) ≡ value_count v + value_count other
  with_first_field v other ps p is some first =
      let q : Pair (InputValue S) = (p.0, record { item = other; span = p.1.span }) in
      omega (arith, ap value_count is, count_object ps, count_object (set ps 0 q), sum_by-set field_count ps 0 q p some, ap field_count first)
