-- Laws of the definitions.
use Rattle.std.specs.Prelude.{◌≡◌, ◌↔◌, List, [], length, Bool, Option, Some, None}
use Rattle.std.specs.List.{All, Any, Contains}
use Rattle.graphql_text.specs.declared.text.Text.{Text}
use Rattle.graphql_values.specs.declared.input_value.InputValue.{InputValue}
use Rattle.graphql_values.specs.declared.input_value.InputValue.TheVariants as value
use Rattle.graphql_values.specs.InputValues.{Pair}
use Rattle.graphql_values.specs.SameValue.{SameValue, UniqueNames}
use Rattle.graphql_values.specs.Variables.{Occurs, IsConstant, names_of_variables, constant_of}

module _ {S : Type 0} (eq : S → S → Bool) where
  -- each value is the same as itself
  abbrev pub SameAsItself : Type 0
  SameAsItself = (a : InputValue S) → SameValue S eq a a

  -- which of two values stands first does not count
  abbrev pub SameEitherWay : Type 0
  SameEitherWay = (a b : InputValue S) → SameValue S eq a b → SameValue S eq b a

  -- what is the same as a third value is the same
  abbrev pub SameByAThird : Type 0
  SameByAThird =
      (a b c : InputValue S) → SameValue S eq a b → SameValue S eq b c → SameValue S eq a c

  -- where no name stands twice, objects are the same exactly if they have equally many fields, and
  -- each of the one has one of the same name and value in the other
  abbrev pub SameByUniqueNames : Type 0
  SameByUniqueNames =
      (ps qs : List (Pair (InputValue S))) → UniqueNames ps → UniqueNames qs
      → SameValue S eq (value.Object ps) (value.Object qs)
      ↔ ((length ps ≡ length qs)
      × All (λ p. Any (λ q. (p.0.item ≡ q.0.item) × SameValue S eq p.1.item q.1.item) qs) ps)

module _ (S : Type 0) where
  -- a value's variables are listed: each that stands in it, and no other
  abbrev pub VariablesAreListed : Type 0
  VariablesAreListed =
      (v : InputValue S) (name : Text) → Contains (names_of_variables v) name ↔ Occurs S name v

  -- none is listed exactly where none stands in it
  abbrev pub NoneIsListed : Type 0
  NoneIsListed = (v : InputValue S) → (names_of_variables v ≡ []) ↔ IsConstant v

  -- a value without variables becomes itself, whatever values there are
  abbrev pub ConstantsStay : Type 0
  ConstantsStay = (given : Text → Option (InputValue S)) (v : InputValue S) → IsConstant v
      → constant_of given v ≡ Some v

  -- with values without variables, what a value becomes has none
  abbrev pub NoVariableStays : Type 0
  NoVariableStays =
      (given : Text → Option (InputValue S))
      → ((name : Text) (w : InputValue S) → given name ≡ Some w → IsConstant w)
      → (v w : InputValue S) → constant_of given v ≡ Some w → IsConstant w

  -- a value becomes nothing only where one of its variables has no value
  abbrev pub OnlyMissingValuesFail : Type 0
  OnlyMissingValuesFail =
      (given : Text → Option (InputValue S)) (v : InputValue S) → constant_of given v ≡ None
      → (name : Text) × Occurs S name v × (given name ≡ None)
