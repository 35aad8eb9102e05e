-- How many values stand in a value, form by form.
use Rattle.std.proofs.Common.{◌≡◌, ℕ, ◌+◌, ◌<◌, List, [], ◌∷◌, ◌++◌, map, ap, sym, ◌∙◌, arith, get_or, set, length, refl}
use Rattle.std.specs.List.{sum_by}
use Rattle.std.proofs.lemmas.List.Sums.{sum_by-cons, sum-map, sum_by-set, sum_by_push}
use Rattle.graphql_output_values.specs.Counts.{count_layer, count_fields_layer, value_count}
use Rattle.graphql_output_values.specs.declared.object.Object.{Object}
use Rattle.graphql_output_values.specs.declared.value.Value.{Value}
use Rattle.graphql_output_values.specs.declared.value.Value.TheVariants as value
use Rattle.graphql_output_values.specs.Objects.{Pair}
use Rattle.graphql_output_values.specs.ValueEquations.{on_value, fold_list, fold_object, fold_fields}

sum_by-map : {A B : Type 0} (f : B → ℕ) (h : A → B) (xs : List A) → sum_by f (map h xs) ≡ sum_by (λ x. f (h x)) xs
sum_by-map f h [] = refl
sum_by-map f h (x ∷ xs) = sum_by-cons f (h x) (map h xs) ∙ ap (λ n. f (h x) + n) (sum_by-map f h xs) ∙ sym (sum_by-cons (λ x. f (h x)) x xs)

filled : {A : Type 0} (xs : List A) → (xs ≡ [] → ⊥) → 0 < length xs
filled [] some = absurd (some refl)
filled (x ∷ xs) some = omega arith

module _ {S : Type 0} where
  -- how many values stand in a field
  abbrev pub field_count : Pair (Value S) → ℕ
  field_count field = value_count field.1

  pub count-list : (xs : List (Value S)) → value_count (value.List xs) ≡ 1 + sum_by value_count xs
  count-list xs = fold_list count_layer count_fields_layer xs ∙ ap (λ n. 1 + n) (sum-map value_count xs)

  pub count-object : (o : Object S) → value_count (value.Object o) ≡ 1 + sum_by field_count o.fields
  count-object o =
      fold_object count_layer count_fields_layer o
      ∙ ap (λ n. 1 + n) (fold_fields count_layer count_fields_layer o ∙ sum_by-map (λ (field : Pair ℕ). field.1) (on_value value_count) o.fields)

  -- the first field is given another value
  pub count-swapped :
      (o : Object S) (old new : Pair (Value S)) → (o.fields ≡ [] → ⊥) → old ≡ get_or o.fields 0 old → value_count old.1 + value_count (value.Object (record { fields = set o.fields 0 new })) ≡ value_count (value.Object o) + value_count new.1
  count-swapped o old new some is =
      let last = sum_by-set field_count o.fields 0 new old (filled o.fields some) in
      let before = count-object o in
      let after = count-object (record { fields = set o.fields 0 new }) in
      let same : field_count old ≡ field_count (get_or o.fields 0 old) = ap field_count is in
      omega (arith, last, before, after, same)

  -- the last field, and the object of the others
  pub count-popped :
      (v : Value S) (o : Object S) (rest : List (Pair (Value S))) (last : Pair (Value S)) → v ≡ value.Object o → o.fields ≡ rest ++ last ∷ [] → value_count v ≡ value_count last.1 + value_count (value.Object (record { fields = rest }))
  count-popped v o rest last is popped =
      let others = count-object (record { fields = rest }) in
      ap value_count is ∙ count-object o ∙ ap (λ fields. 1 + sum_by field_count fields) popped ∙ ap (λ n. 1 + n) (sum_by_push field_count rest last) ∙ omega (arith, others)

  -- the value of the only field, and the object
  pub count-only :
      (v : Value S) (o : Object S) (rest : List (Pair (Value S))) (last : Pair (Value S)) → v ≡ value.Object o → o.fields ≡ rest ++ last ∷ [] → rest ≡ [] → value_count v ≡ value_count last.1 + 1
  count-only v o rest last is popped none =
      let others = count-object (record { fields = rest }) in
      let nothing : sum_by field_count rest ≡ 0 = ap (sum_by field_count) none in
      omega (arith, count-popped v o rest last is popped, others, nothing)

  -- an object of no fields is one value
  pub count-empty : (v : Value S) (o : Object S) → v ≡ value.Object o → o.fields ≡ [] → value_count v ≡ 1
  count-empty v o is none = ap value_count is ∙ count-object o ∙ ap (λ fields. 1 + sum_by field_count fields) none
