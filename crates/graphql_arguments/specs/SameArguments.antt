-- Argument values that are the same, wherever they stand: in whichever order (GraphQL October 2021,
-- 2.6 Arguments: arguments are unordered), or in one order.
use Rattle.std.specs.Prelude.{◌≡◌, Bool, List, [], ◌∷◌, Option, Some, None}
use Rattle.graphql_names.specs.Names.{Bytes}
use Rattle.graphql_values.specs.SameValue.{SameValue}
use Rattle.graphql_values.specs.declared.input_value.InputValue.{InputValue}
use Rattle.graphql_arguments.specs.ArgumentValues.{Given, value_named}

module _ {S : Type 0} (eq : S → S → Bool) where
  -- nothing stands in both, or the same value in both
  abbrev pub SameGiven : Option (InputValue S) → Option (InputValue S) → Type 0
  SameGiven None None = Unit {0}
  SameGiven (Some v) (Some w) = SameValue S eq v w
  SameGiven None (Some w) = ⊥
  SameGiven (Some v) None = ⊥

  -- under each name
  abbrev pub SameArguments : Given S → Given S → Type 0
  SameArguments xs ys = (name : Bytes) → SameGiven (value_named xs name) (value_named ys name)

  -- the same names with the same values in one order, wherever they stand
  abbrev pub SameInOrder : Given S → Given S → Type 0
  SameInOrder [] [] = Unit {0}
  SameInOrder [] (y ∷ ys) = ⊥
  SameInOrder (x ∷ xs) [] = ⊥
  SameInOrder (x ∷ xs) (y ∷ ys) = (x.0 ≡ y.0) × SameValue S eq x.1.item y.1.item × SameInOrder xs ys
