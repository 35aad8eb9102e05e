-- Input values that are the same wherever they stand (GraphQL October 2021, 2.9 Input Values; 2.9.8
-- Input Object Values: fields are unordered).
use Rattle.std.specs.Prelude.{◌≡◌, ◌≢◌, List, [], ◌∷◌, map, Bool, true}
use Rattle.std.specs.List.{AllPairs, filter}
use Rattle.std.specs.Str.{bytes_eq}
use Rattle.graphql_text.specs.declared.text.Text.{Text}
use Rattle.graphql_values.specs.declared.input_value.InputValue.{InputValue}
use Rattle.graphql_values.specs.declared.input_value.InputValue.TheVariants as value
use Rattle.graphql_values.specs.InputValues.{Placed, Pair}

module _ {A : Type 0} where
  -- no name stands twice (GraphQL October 2021, 5.6.3 Input Object Field Uniqueness)
  abbrev pub UniqueNames : List (Pair A) → Type 0
  UniqueNames ps = AllPairs (λ p q. p.0.item ≢ q.0.item) ps

  -- the fields' names, in order
  abbrev pub names : List (Pair A) → List Text
  names = map (λ p. p.0.item)

  -- the values of the fields of a name, in order
  abbrev pub values_named : Text → List (Pair A) → List (Placed A)
  values_named name ps = map (λ p. p.1) (filter (λ p. bytes_eq p.0.item name) ps)

mutual
  -- two values are the same: of input objects by the names of their fields, in any order
  pub data SameValue (S : Type 0) (eq : S → S → Bool) : InputValue S → InputValue S → Type 0 where
    same_null : SameValue S eq value.Null value.Null
    same_scalar : (a b : S) → eq a b ≡ true → SameValue S eq (value.Scalar a) (value.Scalar b)
    same_enum : (name : Text) → SameValue S eq (value.Enum name) (value.Enum name)
    same_variable : (name : Text) → SameValue S eq (value.Variable name) (value.Variable name)
    same_list : (xs ys : List (Placed (InputValue S))) → SameItems S eq xs ys
        → SameValue S eq (value.List xs) (value.List ys)
    -- under each name the same values stand, in order
    same_object : (ps qs : List (Pair (InputValue S)))
        → ((name : Text) → SameItems S eq (values_named name ps) (values_named name qs))
        → SameValue S eq (value.Object ps) (value.Object qs)

  -- item by item
  pub data SameItems (S : Type 0) (eq : S → S → Bool) : List (Placed (InputValue S))
      → List
      (Placed (InputValue S)) → Type 0 where
    no_items : SameItems S eq [] []
    more_items : (x y : Placed (InputValue S)) (xs ys : List (Placed (InputValue S)))
        → SameValue S eq x.item y.item → SameItems S eq xs ys → SameItems S eq (x ∷ xs) (y ∷ ys)

-- fields of which the same values stand under each name, in order
abbrev pub SameFields : (S : Type 0) → (S → S → Bool) → List (Pair (InputValue S))
    → List (Pair (InputValue S)) → Type 0
SameFields S eq ps qs = (name : Text) → SameItems S eq (values_named name ps) (values_named name qs)
