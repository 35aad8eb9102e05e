-- What input values mean as lists of one length (GraphQL October 2021, 3.11 List, "Input
-- Coercion").
use Rattle.std.specs.Prelude.{◌≡◌, ◌≢◌, ℕ, Option, Some, List, ◌++◌, length, codes}
use Rattle.std.specs.Fmt.{decimal}
use Rattle.std.specs.Option.{IsSomeAnd}
use Rattle.std.specs.List.{AllZip}
use Rattle.graphql_values.specs.declared.input_value.InputValue.{InputValue}
use Rattle.graphql_values.specs.declared.input_value.InputValue.TheVariants as value
use Rattle.graphql_values.specs.declared.conversions.lists.FromInputValueVecError.{FromInputValueVecError}
use Rattle.graphql_values.specs.declared.conversions.lists.FromInputValueVecError.TheVariants as
    vec_error
use Rattle.graphql_values.specs.declared.conversions.arrays.FromInputValueArrayError.{FromInputValueArrayError}
use Rattle.graphql_values.specs.declared.conversions.arrays.FromInputValueArrayError.TheVariants as
    array_error
use Rattle.graphql_values.specs.InputValues.{Placed}
use Rattle.graphql_values.specs.ConversionsOfLists.{items_of, MeansItems, RefusesItem}

-- where the value is a list, it has n items
abbrev pub ListHas : {S : Type 0} → ℕ → InputValue S → Type 0
ListHas {S} n v = (items : List (Placed (InputValue S))) → v ≡ value.List items → length items ≡ n

-- the value is a list of so many items, which are not n
abbrev pub ListHasOther : {S : Type 0} → ℕ → InputValue S → ℕ → Type 0
ListHasOther {S} n v actual = (actual ≢ n)
    × ((items : List (Placed (InputValue S))) × (v ≡ value.List items) × (length items ≡ actual))

-- the value means these as a list, and they are n
abbrev pub MeansExactly : {S T : Type 0} → ℕ → (InputValue S → T → Type 0) → InputValue S → List T
    → Type 0
MeansExactly n means v ys = MeansItems means v ys × (length ys ≡ n)

module _ {S T E : Type 0} (n : ℕ) (means : InputValue S → T → Type 0)
    (refuses : InputValue S → E → Type 0) where
  -- the items are so many; where it is no list that shows it by itself, they mean something
  abbrev pub HasItems : InputValue S → ℕ → Type 0
  HasItems v actual = IsSomeAnd (items_of v)
      (λ items. (length items ≡ actual) × (ListHas n v → (ys : List T) × AllZip means items ys))

  -- null is no list; a list of another number is refused for that; then a refused item refuses the
  -- list; then its number
  abbrev pub RefusesExactly : InputValue S → FromInputValueArrayError T S E → Type 0
  RefusesExactly v array_error.Null = v ≡ value.Null
  RefusesExactly v (array_error.WrongCount actual expected) =
      (expected ≡ n) × (actual ≢ n) × HasItems v actual
  RefusesExactly v (array_error.Item e) = ListHas n v × RefusesItem means refuses v e
  RefusesExactly v array_error.Memory = ⊥

-- an error that is want of memory, an item's among them
abbrev pub IsItemMemory : {S T E : Type 0} → (E → Type 0) → FromInputValueArrayError T S E → Type 0
IsItemMemory is_memory array_error.Null = ⊥
IsItemMemory is_memory (array_error.WrongCount actual expected) = ⊥
IsItemMemory is_memory (array_error.Item e) = is_memory e
IsItemMemory is_memory array_error.Memory = Unit {0}

-- why a value is no list, where the number of its items is wanted too
abbrev pub of_list_error : {S T E : Type 0} → FromInputValueVecError T S E
    → FromInputValueArrayError T S E
of_list_error vec_error.Null = array_error.Null
of_list_error (vec_error.Item e) = array_error.Item e
of_list_error vec_error.Memory = array_error.Memory

-- the text of an error, by those of items' errors
abbrev pub array_error_text : {S T E : Type 0} → (E → Option (List ℕ))
    → FromInputValueArrayError T S E → Option (List ℕ)
array_error_text text array_error.Null =
    Some (codes "Failed to convert into exact-size array: Value cannot be `null`")
array_error_text text (array_error.WrongCount actual expected) =
    Some (codes "Failed to convert into exact-size array: wrong elements count: " ++ decimal actual
    ++ codes " instead of " ++ decimal expected)
array_error_text text (array_error.Item e) = text e
array_error_text text array_error.Memory = Some (codes "Out of memory")
