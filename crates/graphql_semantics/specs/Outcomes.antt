-- What stands at a place of an answer, and what failed there or below (GraphQL October 2021, 6.4.4
-- Handling Field Errors).
use Rattle.std.specs.Prelude.{Bool, true, false, List, [], ◌∷◌, ◌++◌, Option, Some, None}
use Rattle.std.specs.Option.{option_map}
use Rattle.graphql_output_values.specs.declared.value.Value.{Value}
use Rattle.graphql_output_values.specs.declared.value.Value.TheVariants as value
use Rattle.graphql_field_results.specs.declared.execution_error.ExecutionError.{ExecutionError}

-- a value, or nothing for a null that goes on to the parent unless the place may show it; the
-- failures in order
pub record Outcome (S A : Type 0) : Type 0 where
  pub value : Option A
  pub failures : List (ExecutionError S)

-- what is made of two values, where both are there
abbrev pub both : {A B C : Type 0} → (A → B → C) → Option A → Option B → Option C
both f None y = None
both f (Some x) None = None
both f (Some x) (Some y) = Some (f x y)

module _ {S : Type 0} where
  abbrev pub no_value : {A : Type 0} → Outcome S A
  no_value = record { value = None; failures = [] }

  abbrev pub gives : {A : Type 0} → A → Outcome S A
  gives x = record { value = Some x; failures = [] }

  -- nothing but this failure
  abbrev pub fails : {A : Type 0} → ExecutionError S → Outcome S A
  fails e = record { value = None; failures = e ∷ [] }

  -- the same outcome of another value
  abbrev pub outcome_map : {A B : Type 0} → (A → B) → Outcome S A → Outcome S B
  outcome_map f o = record { value = option_map f o.value; failures = o.failures }

  -- a place that may be null shows its own null; at one that may not, the null goes on to the
  -- parent
  abbrev pub shown : Bool → Option (Value S) → Option (Value S)
  shown is_required (Some x) = Some x
  shown true None = None
  shown false None = Some value.Null

  -- an outcome as its place shows it: a null goes on where the place is required
  abbrev pub show_place : Bool → Outcome S (Value S) → Outcome S (Value S)
  show_place is_required o = record { value = shown is_required o.value; failures = o.failures }

  -- all of them, or nothing where one is nothing
  abbrev pub together : {A : Type 0} → List (Outcome S A) → Outcome S (List A)
  together [] = gives []
  together (o ∷ os) = record {
    value = both (λ x xs. x ∷ xs) o.value (together os).value;
    failures = o.failures ++ (together os).failures;
  }
