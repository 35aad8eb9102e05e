-- What input values mean as lists (GraphQL October 2021, 3.11 List, "Input Coercion"; 3.12.1
-- Combining List and Non-Null).
use Rattle.std.specs.Prelude.{◌≡◌, ℕ, Option, Some, None, List, [], ◌∷◌, ◌++◌, map, codes}
use Rattle.std.specs.Option.{IsSomeAnd}
use Rattle.std.specs.List.{AllZip}
use Rattle.graphql_values.specs.declared.input_value.InputValue.{InputValue, out-InputValue}
use Rattle.graphql_values.specs.declared.input_value.InputValue.TheOpen.{InputValue-F}
use Rattle.graphql_values.specs.declared.input_value.InputValue.TheVariants as value
use Rattle.graphql_values.specs.declared.conversions.lists.FromInputValueVecError.{FromInputValueVecError}
use Rattle.graphql_values.specs.declared.conversions.lists.FromInputValueVecError.TheVariants as
    vec_error

module _ {S : Type 0} where
  abbrev pub items_layer : InputValue S → InputValue-F S (InputValue S)
      → Option (List (InputValue S))
  items_layer v InputValue-F.Null = None
  items_layer v (InputValue-F.List items) = Some (map (λ x. x.item) items)
  items_layer v (InputValue-F.Scalar scalar) = Some (v ∷ [])
  items_layer v (InputValue-F.Enum name) = Some (v ∷ [])
  items_layer v (InputValue-F.Variable name) = Some (v ∷ [])
  items_layer v (InputValue-F.Object pairs) = Some (v ∷ [])

  -- the items that a value gives to a list: null gives none, a list its own, and any other value
  -- itself as the only one
  abbrev pub items_of : InputValue S → Option (List (InputValue S))
  items_of v = items_layer v (out-InputValue S v)

-- of these items the first that means nothing is refused, with this error
pub record IsRefusedFirst {S T E : Type 0} (means : InputValue S → T → Type 0)
    (refuses : InputValue S → E → Type 0) (items : List (InputValue S)) (e : E) : Type 0 where
  pub before : List (InputValue S)
  pub read : List T
  pub refused : InputValue S
  pub behind : List (InputValue S)
  pub parts : items ≡ before ++ refused ∷ behind
  pub before_mean : AllZip means before read
  pub refused_is : refuses refused e

-- each item that the value gives means the one at its place
abbrev pub MeansItems : {S T : Type 0} → (InputValue S → T → Type 0) → InputValue S → List T
    → Type 0
MeansItems means v ys = IsSomeAnd (items_of v) (λ items. AllZip means items ys)

module _ {S T E : Type 0} (means : InputValue S → T → Type 0)
    (refuses : InputValue S → E → Type 0) where
  -- of the items that the value gives, the first that means nothing is refused
  abbrev pub RefusesItem : InputValue S → E → Type 0
  RefusesItem v e = IsSomeAnd (items_of v) (λ items. IsRefusedFirst means refuses items e)

  -- null is no list, and a refused item refuses the list
  abbrev pub RefusesItems : InputValue S → FromInputValueVecError T S E → Type 0
  RefusesItems v vec_error.Null = v ≡ value.Null
  RefusesItems v (vec_error.Item e) = RefusesItem v e
  RefusesItems v vec_error.Memory = ⊥

-- an error that is want of memory, an item's among them
abbrev pub IsItemMemory : {S T E : Type 0} → (E → Type 0) → FromInputValueVecError T S E → Type 0
IsItemMemory is_memory vec_error.Null = ⊥
IsItemMemory is_memory (vec_error.Item e) = is_memory e
IsItemMemory is_memory vec_error.Memory = Unit {0}

-- the text of an error, by those of items' errors
abbrev pub list_error_text : {S T E : Type 0} → (E → Option (List ℕ)) → FromInputValueVecError T S E
    → Option (List ℕ)
list_error_text text vec_error.Null =
    Some (codes "Failed to convert into `Vec`: Value cannot be `null`")
list_error_text text (vec_error.Item e) = text e
list_error_text text vec_error.Memory = Some (codes "Out of memory")
