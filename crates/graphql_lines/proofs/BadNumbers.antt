-- Data that stands for no value has a bad number, and no other data has one.
use Rattle.std.proofs.Common.{◌≡◌, ℕ, zero, suc, ℤ, Bool, List, [], ◌∷◌, ◌++◌, Option, Some, None, option_map, option_and_then, refl, ap, ◌∙◌, inl, inr, arith}
use Rattle.std.specs.Prelude.{◌⊎◌, Contains}
use Rattle.std.proofs.lemmas.List.Elements.{Contains-append_left, Contains-append_right, Contains-append_cases}
use Rattle.serde_json.specs.Data.{Num, Data, null, boolean, number, string, array, object, Items, no_items, item, Members, no_members, member}
use Rattle.graphql_values.specs.declared.input_value.InputValue.{InputValue}
use Rattle.graphql_values.specs.declared.input_value.InputValue.TheVariants as value
use Rattle.graphql_values.specs.InputValues.{unplaced, unplaced_pair}
use Rattle.graphql_lines.specs.Variables.{whole_of, input_of, inputs_of, fields_of}
use Rattle.graphql_lines.specs.Laws.{numbers_in, numbers_in_items, numbers_in_members, HasBadNumber, BadNumbersAreRefused}

-- ---- none of options

module _ {A B : Type 0} where
  map_none : (f : A → B) (o : Option A) → option_map f o ≡ None → o ≡ None
  map_none f None e = refl
  map_none f (Some a) e = absurd (cc)

  none_mapped : (f : A → B) (o : Option A) → o ≡ None → option_map f o ≡ None
  none_mapped f o e = ap (option_map f) e

module _ {A B C : Type 0} (f : A → B → C) where
  -- the first, then the rest
  abbrev both : Option A → Option B → Option C
  both first rest = option_and_then (λ x. option_map (f x) rest) first

  one_is_none : (first : Option A) (rest : Option B) → both first rest ≡ None → (first ≡ None) ⊎ (rest ≡ None)
  one_is_none None rest e = inl refl
  one_is_none (Some x) rest e = inr (map_none (f x) rest e)

  first_none : (first : Option A) (rest : Option B) → first ≡ None → both first rest ≡ None
  first_none first rest e = ap (λ o. both o rest) e

  rest_none : (first : Option A) (rest : Option B) → rest ≡ None → both first rest ≡ None
  rest_none None rest e = refl
  rest_none (Some x) rest e = ap (option_map (f x)) e

-- ---- bad numbers of lists

none_bad : HasBadNumber [] → ⊥
none_bad (n, inside, bad) = absurd (omega (arith, inside.1))

bad_here : (n : Num) → whole_of n ≡ None → HasBadNumber (n ∷ [])
bad_here n e = (n, (0, omega arith, refl), e)

bad_alone : (n : Num) → HasBadNumber (n ∷ []) → whole_of n ≡ None
bad_alone n (m, (zero, below, is), bad) = ap whole_of is ∙ bad
bad_alone n (m, (suc k, below, is), bad) = absurd (omega arith)

bad_left : (ms ns : List Num) → HasBadNumber ms → HasBadNumber (ms ++ ns)
bad_left ms ns (n, inside, bad) = (n, Contains-append_left ms ns n inside, bad)

bad_right : (ms ns : List Num) → HasBadNumber ns → HasBadNumber (ms ++ ns)
bad_right ms ns (n, inside, bad) = (n, Contains-append_right ms ns n inside, bad)

bad_side : (ms ns : List Num) → HasBadNumber (ms ++ ns) → HasBadNumber ms ⊎ HasBadNumber ns
bad_side ms ns (n, inside, bad) = side (Contains-append_cases ms ns n inside)
  where
    side : Contains ms n ⊎ Contains ns n → HasBadNumber ms ⊎ HasBadNumber ns
    side (inl left) = inl (n, left, bad)
    side (inr right) = inr (n, right, bad)

module _ {S : Type 0} (of_bool : Bool → S) (of_int : ℤ → S) (of_text : List ℕ → S) where
  abbrev input : Data → Option (InputValue S)
  input = input_of of_bool of_int of_text

  mutual
    refused : (d : Data) → input d ≡ None → HasBadNumber (numbers_in d)
    refused null e = absurd (cc)
    refused (boolean b) e = absurd (cc)
    refused (number n) e = bad_here n (map_none (λ z. value.Scalar (of_int z)) (whole_of n) e)
    refused (string s) e = absurd (cc)
    refused (array ds) e = refused_items ds (map_none value.List _ e)
    refused (object ms) e = refused_members ms (map_none value.Object _ e)

    refused_items : (ds : Items) → inputs_of of_bool of_int of_text ds ≡ None → HasBadNumber (numbers_in_items ds)
    refused_items no_items e = absurd (cc)
    refused_items (item d ds) e = elim (one_is_none (λ x xs. unplaced x ∷ xs) (input d) (inputs_of of_bool of_int of_text ds) e) [
      | inl first ↦ bad_left (numbers_in d) (numbers_in_items ds) (refused d first)
      | inr rest ↦ bad_right (numbers_in d) (numbers_in_items ds) (refused_items ds rest)
    ]

    refused_members : (ms : Members) → fields_of of_bool of_int of_text ms ≡ None → HasBadNumber (numbers_in_members ms)
    refused_members no_members e = absurd (cc)
    refused_members (member k d ms) e = elim (one_is_none (λ x ps. unplaced_pair (k, x) ∷ ps) (input d) (fields_of of_bool of_int of_text ms) e) [
      | inl first ↦ bad_left (numbers_in d) (numbers_in_members ms) (refused d first)
      | inr rest ↦ bad_right (numbers_in d) (numbers_in_members ms) (refused_members ms rest)
    ]

  mutual
    bad : (d : Data) → HasBadNumber (numbers_in d) → input d ≡ None
    bad null h = absurd (none_bad h)
    bad (boolean b) h = absurd (none_bad h)
    bad (number n) h = none_mapped (λ z. value.Scalar (of_int z)) (whole_of n) (bad_alone n h)
    bad (string s) h = absurd (none_bad h)
    bad (array ds) h = none_mapped value.List _ (bad_items ds h)
    bad (object ms) h = none_mapped value.Object _ (bad_members ms h)

    bad_items : (ds : Items) → HasBadNumber (numbers_in_items ds) → inputs_of of_bool of_int of_text ds ≡ None
    bad_items no_items h = absurd (none_bad h)
    bad_items (item d ds) h = elim (bad_side (numbers_in d) (numbers_in_items ds) h) [
      | inl left ↦ first_none (λ x xs. unplaced x ∷ xs) (input d) (inputs_of of_bool of_int of_text ds) (bad d left)
      | inr right ↦ rest_none (λ x xs. unplaced x ∷ xs) (input d) (inputs_of of_bool of_int of_text ds) (bad_items ds right)
    ]

    bad_members : (ms : Members) → HasBadNumber (numbers_in_members ms) → fields_of of_bool of_int of_text ms ≡ None
    bad_members no_members h = absurd (none_bad h)
    bad_members (member k d ms) h = elim (bad_side (numbers_in d) (numbers_in_members ms) h) [
      | inl left ↦ first_none (λ x ps. unplaced_pair (k, x) ∷ ps) (input d) (fields_of of_bool of_int of_text ms) (bad d left)
      | inr right ↦ rest_none (λ x ps. unplaced_pair (k, x) ∷ ps) (input d) (fields_of of_bool of_int of_text ms) (bad_members ms right)
    ]

  pub bad_numbers_are_refused : BadNumbersAreRefused of_bool of_int of_text
  bad_numbers_are_refused = (λ d. (refused d, bad d), λ ms. (refused_members ms, bad_members ms))
