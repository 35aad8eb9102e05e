-- Values put behind others, unless one of their name is there: of each name the first stays.
use Rattle.std.proofs.Common.{◌≡◌, ℕ, ◌+◌, ◌<◌, ◌||◌, Bool, true, false, cond, List, [], ◌∷◌, ◌++◌, length, take, get_or, unwrap_or, Option, Some, None, refl, sym, ap, ◌∙◌}
use Rattle.std.specs.List.{filter_map, find}
use Rattle.std.specs.Map.{lookup}
use Rattle.std.specs.Option.{option_map, option_or}
use Rattle.std.specs.Prelude.{if◌then◌else◌}
use Rattle.std.specs.Str.{bytes_eq}
use Rattle.std.proofs.lemmas.Cmp.{nat_list_eq_equiv}
use Rattle.std.proofs.lemmas.List.Sums.{fold-append}
use Rattle.indexmap.specs.IndexMap.{insert_entry}
use Rattle.graphql_names.specs.Names.{Bytes}
use Rattle.graphql_values.specs.InputValues.{Placed}
use Rattle.graphql_values.specs.declared.input_value.InputValue.{InputValue}
use Rattle.graphql_arguments.specs.ArgumentValues.{Given, NamedValue, has_value, value_named, with_value, with_values}
use Rattle.graphql_arguments.specs.GivenValues.{pair_told, value_told, values_told}
use Rattle.graphql_arguments.specs.declared.given.GivenValue.{GivenValue}
use Rattle.graphql_arguments.proofs.Filtering.{found_more, missed_more}

module _ {S : Type 0} where
  -- a value put in a map, unless one stands under its name
  pub put_in : (held : List (Bytes × Placed (GivenValue S))) (name : Bytes) (v : Placed (GivenValue S))
      → values_told (insert_entry bytes_eq held name (unwrap_or (lookup (bytes_eq name) held) v)) ≡ with_value (values_told held) (pair_told (name, v))
  put_in [] name v = refl
  put_in (e ∷ held) name v =
      either (bytes_eq name e.0) (has_value (values_told held) name) (put_in held name v)
      ∙ ap (λ b. if b || has_value (values_told held) name then values_told (e ∷ held) else values_told (e ∷ held) ++ pair_told (name, v) ∷ []) (nat_list_eq_equiv.symm name e.0)
    where
      either : (same has : Bool)
          → values_told (insert_entry bytes_eq held name (unwrap_or (lookup (bytes_eq name) held) v)) ≡ (if has then values_told held else values_told held ++ pair_told (name, v) ∷ [])
          → values_told (if same then (e.0, unwrap_or (cond same (Some e.1) (lookup (bytes_eq name) held)) v) ∷ held else e ∷ insert_entry bytes_eq held name (unwrap_or (cond same (Some e.1) (lookup (bytes_eq name) held)) v))
          ≡ (if same || has then values_told (e ∷ held) else values_told (e ∷ held) ++ pair_told (name, v) ∷ [])
      either true has rest = refl
      either false true rest = ap (λ vs. pair_told e ∷ vs) rest
      either false false rest = ap (λ vs. pair_told e ∷ vs) rest

  -- under a name stands what is found under it
  pub found_in : (held : List (Bytes × Placed (GivenValue S))) (name : Bytes) → value_named (values_told held) name ≡ option_map (λ v. value_told v.item) (lookup (bytes_eq name) held)
  found_in [] name = refl
  found_in (e ∷ held) name =
      ap (λ is. option_map (λ p. p.1.item) (cond is (Some (pair_told e)) (find (λ p. bytes_eq p.0 name) (values_told held)))) (nat_list_eq_equiv.symm e.0 name)
      ∙ either (bytes_eq name e.0) (found_in held name)
    where
      either : (is : Bool) → value_named (values_told held) name ≡ option_map (λ v. value_told v.item) (lookup (bytes_eq name) held)
          → option_map (λ p. p.1.item) (cond is (Some (pair_told e)) (find (λ p. bytes_eq p.0 name) (values_told held))) ≡ option_map (λ v. value_told v.item) (cond is (Some e.1) (lookup (bytes_eq name) held))
      either true rest = refl
      either false rest = rest

module _ {S A : Type 0} (h : A → Option (NamedValue S)) (xs : List A) (i : ℕ) (x : A) (start before after : Given S) where
  -- one item more, which has a value
  pub put_more : (v : NamedValue S) → before ≡ with_values start (filter_map h (take i xs)) → i < length xs → x ≡ get_or xs i x → h x ≡ Some v → after ≡ with_value before v → after ≡ with_values start (filter_map h (take (i + 1) xs))
  put_more v so_far within is gives put =
      put
      ∙ ap (λ vs. with_value vs v) so_far
      ∙ sym (fold-append with_value start (filter_map h (take i xs)) (v ∷ []))
      ∙ ap (with_values start) (found_more h xs i x (filter_map h (take i xs)) (filter_map h (take i xs) ++ v ∷ []) v refl within is gives refl)

  -- one item more, which has none
  pub kept_more : before ≡ with_values start (filter_map h (take i xs)) → i < length xs → x ≡ get_or xs i x → h x ≡ None → after ≡ before → after ≡ with_values start (filter_map h (take (i + 1) xs))
  kept_more so_far within is misses same =
      same ∙ so_far ∙ ap (with_values start) (missed_more h xs i x (filter_map h (take i xs)) (filter_map h (take i xs)) refl within is misses refl)

-- ---- what stands under a name

or_none : {A : Type 0} (o : Option A) → option_or o None ≡ o
or_none None = refl
or_none (Some x) = refl

module _ {S : Type 0} where
  -- the value of the first of a name, or of one of the others
  abbrev first_or : Bool → NamedValue S → Option (NamedValue S) → Option (InputValue S)
  first_or same v others = option_map (λ p. p.1.item) (cond same (Some v) others)

  named_put : (us : Given S) (v : NamedValue S) (name : Bytes) → value_named (with_value us v) name ≡ option_or (value_named us name) (value_named (v ∷ []) name)
  named_put [] v name = refl
  named_put (u ∷ us) v name =
      let same = bytes_eq u.0 v.0 in
      let has = has_value us v.0 in
      behind same has ∙ either (bytes_eq u.0 name) same has (nat_list_eq_equiv.congr u.0 v.0 name) (named_put us v name)
    where
      behind : (same has : Bool) → value_named (if same || has then u ∷ us else u ∷ us ++ v ∷ []) name ≡ first_or (bytes_eq u.0 name) u (find (λ p. bytes_eq p.0 name) (if same || has then us else us ++ v ∷ []))
      behind true has = refl
      behind false true = refl
      behind false false = refl

      either : (is same has : Bool) → (same ≡ true → is ≡ bytes_eq v.0 name)
          → value_named (if has then us else us ++ v ∷ []) name ≡ option_or (value_named us name) (value_named (v ∷ []) name)
          → first_or is u (find (λ p. bytes_eq p.0 name) (if same || has then us else us ++ v ∷ [])) ≡ option_or (first_or is u (find (λ p. bytes_eq p.0 name) us)) (value_named (v ∷ []) name)
      either true same has alike rest = refl
      either false true has alike rest = sym (or_none (value_named us name)) ∙ ap (λ b. option_or (value_named us name) (first_or b v None)) (alike refl)
      either false false has alike rest = rest

  named_all : (us vs : Given S) (name : Bytes) → value_named (with_values us vs) name ≡ option_or (value_named us name) (value_named vs name)
  named_all us [] name = sym (or_none (value_named us name))
  named_all us (v ∷ vs) name =
      named_all (with_value us v) vs name
      ∙ ap (λ o. option_or o (value_named vs name)) (named_put us v name)
      ∙ either (value_named us name) (bytes_eq v.0 name)
    where
      either : (o : Option (InputValue S)) (is : Bool) → option_or (option_or o (first_or is v None)) (value_named vs name) ≡ option_or o (first_or is v (find (λ p. bytes_eq p.0 name) vs))
      either None true = refl
      either None false = refl
      either (Some x) is = refl

  -- under a name stands the value that stands first under it
  pub first_named : (us vs : Given S) (name : Bytes) → value_named (with_values [] (us ++ vs)) name ≡ option_or (value_named us name) (value_named vs name)
  first_named us vs name =
      ap (λ ws. value_named ws name) (fold-append with_value [] us vs)
      ∙ named_all (with_values [] us) vs name
      ∙ ap (λ o. option_or o (value_named vs name)) (named_all [] us name)
