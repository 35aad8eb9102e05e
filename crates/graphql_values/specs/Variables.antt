-- The variables in an input value, and what it is once they have their values (GraphQL October
-- 2021, 2.10 Variables, 6.4.1 Coercing Field Arguments).
use Rattle.std.specs.Prelude.{List, [], ◌∷◌, Option, Some}
use Rattle.std.specs.List.{flat_map, Contains}
use Rattle.std.specs.Option.{option_map, option_and_then}
use Rattle.graphql_text.specs.declared.text.Text.{Text}
use Rattle.graphql_values.specs.declared.input_value.InputValue.{InputValue, fold-InputValue}
use Rattle.graphql_values.specs.declared.input_value.InputValue.TheOpen.{InputValue-F}
use Rattle.graphql_values.specs.declared.input_value.InputValue.TheVariants as value
use Rattle.graphql_values.specs.InputValues.{Placed, Pair}

-- the variable of this name stands in the value
pub data Occurs (S : Type 0) (name : Text) : InputValue S → Type 0 where
  itself : Occurs S name (value.Variable name)
  in_list : (items : List (Placed (InputValue S))) (x : Placed (InputValue S)) → Contains items x
      → Occurs S name x.item → Occurs S name (value.List items)
  in_object : (pairs : List (Pair (InputValue S))) (p : Pair (InputValue S)) → Contains pairs p
      → Occurs S name p.1.item → Occurs S name (value.Object pairs)

-- what each item gives, in order, or nothing where one gives nothing
abbrev pub each_given : {A B : Type 0} → (A → Option B) → List A → Option (List B)
each_given f [] = Some []
each_given f (x ∷ xs) = option_and_then (λ y. option_map (λ ys. y ∷ ys) (each_given f xs)) (f x)

-- the value at a place, if there is one
abbrev pub given_item : {A : Type 0} → Placed (Option A) → Option (Placed A)
given_item x = option_map (λ given. record { item = given; span = x.span }) x.item

-- a field, if its value is given
abbrev pub given_pair : {A : Type 0} → Pair (Option A) → Option (Pair A)
given_pair p = option_map (λ given. (p.0, given)) (given_item p.1)

module _ {S : Type 0} where
  -- no variable stands in the value
  abbrev pub IsConstant : InputValue S → Type 0
  IsConstant v = (name : Text) → Occurs S name v → ⊥

  -- the names of the variables in one layer of a value, from those in its parts
  abbrev pub variables_layer : InputValue-F S (List Text) → List Text
  variables_layer (InputValue-F.Variable name) = name ∷ []
  variables_layer (InputValue-F.List items) = flat_map (λ x. x.item) items
  variables_layer (InputValue-F.Object pairs) = flat_map (λ p. p.1.item) pairs
  variables_layer _ = []

  -- the names of a value's variables from left to right, each as often as it stands there
  abbrev pub names_of_variables : InputValue S → List Text
  names_of_variables = fold-InputValue S (List Text) variables_layer

module _ {S : Type 0} (given : Text → Option (InputValue S)) where
  -- one layer of a value, of whose parts it is known what they become
  abbrev pub constant_layer : InputValue-F S (Option (InputValue S)) → Option (InputValue S)
  constant_layer InputValue-F.Null = Some value.Null
  constant_layer (InputValue-F.Scalar scalar) = Some (value.Scalar scalar)
  constant_layer (InputValue-F.Enum name) = Some (value.Enum name)
  constant_layer (InputValue-F.Variable name) = given name
  constant_layer (InputValue-F.List items) = option_map value.List (each_given given_item items)
  constant_layer (InputValue-F.Object pairs) = option_map value.Object (each_given given_pair pairs)

  -- the value with each variable's value in its stead; nothing where a variable has no value
  abbrev pub constant_of : InputValue S → Option (InputValue S)
  constant_of = fold-InputValue S (Option (InputValue S)) constant_layer

  -- the same of the value of a list's item, and of a field
  abbrev pub constant_item : Placed (InputValue S) → Option (Placed (InputValue S))
  constant_item x = given_item (record { item = constant_of x.item; span = x.span })

  -- a field with the values of variables, or nothing where one has none
  abbrev pub constant_pair : Pair (InputValue S) → Option (Pair (InputValue S))
  constant_pair p = option_map (λ x. (p.0, x)) (constant_item p.1)
