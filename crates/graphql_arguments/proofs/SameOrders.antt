-- Argument values that are the same in one order are the same in whichever order.
use Rattle.std.proofs.Common.{◌≡◌, subst, Bool, true, false, cond, List, [], ◌∷◌, Option, Some, None}
use Rattle.std.specs.List.{find}
use Rattle.std.specs.Option.{option_map}
use Rattle.std.specs.Str.{bytes_eq}
use Rattle.graphql_names.specs.Names.{Bytes}
use Rattle.graphql_values.specs.SameValue.{SameValue}
use Rattle.graphql_values.specs.declared.input_value.InputValue.{InputValue}
use Rattle.graphql_arguments.specs.ArgumentValues.{Given, NamedValue, value_named}
use Rattle.graphql_arguments.specs.SameArguments.{SameArguments, SameGiven, SameInOrder}

module _ {S : Type 0} (eq : S → S → Bool) where
  -- the first of a name, or one of the others
  abbrev first_or : Bool → NamedValue S → Option (NamedValue S) → Option (InputValue S)
  first_or is x others = option_map (λ p. p.1.item) (cond is (Some x) others)

  same-first : (is : Bool) (x y : NamedValue S) (xs ys : Given S) (name : Bytes) → SameValue S eq x.1.item y.1.item → SameGiven eq (value_named xs name) (value_named ys name)
      → SameGiven eq (first_or is x (find (λ p. bytes_eq p.0 name) xs)) (first_or is y (find (λ p. bytes_eq p.0 name) ys))
  same-first true x y xs ys name same others = same
  same-first false x y xs ys name same others = others

  pub in-order-same : (xs ys : Given S) → SameInOrder eq xs ys → SameArguments eq xs ys
  in-order-same [] [] same name = tt
  in-order-same [] (y ∷ ys) same name = absurd same
  in-order-same (x ∷ xs) [] same name = absurd same
  in-order-same (x ∷ xs) (y ∷ ys) same name =
      subst (λ n. SameGiven eq (first_or (bytes_eq x.0 name) x (find (λ p. bytes_eq p.0 name) xs)) (first_or (bytes_eq n name) y (find (λ p. bytes_eq p.0 name) ys))) same.0
      (same-first (bytes_eq x.0 name) x y xs ys name same.1 (in-order-same xs ys same.2 name))
