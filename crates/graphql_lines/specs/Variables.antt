-- Variables' values, as JSON gives them (GraphQL October 2021, 7.2 Serialization Format, 3.5
-- Scalars).
use Rattle.std.specs.Prelude.{ℕ, ℤ, Bool, if◌then◌else◌, List, [], ◌∷◌, Option, Some, None}
use Rattle.std.specs.Prelude.{option_map, option_and_then, IsSome, String, ◌≡◌, Result}
use Rattle.std.specs.HashMap.{HashMap}
use Rattle.std.specs.declared.alloc.Global.{Global}
use Rattle.std.specs.HashMap.{get_by_text}
use Rattle.serde_json.specs.Data.{Num, Data, null, boolean, number, string, array, object, Items}
use Rattle.serde_json.specs.Data.{no_items, item, Members, no_members, member}
use Rattle.serde_json.specs.Find.{as_i64, get_member}
use Rattle.graphql_text.specs.Memory.{Answers}
use Rattle.graphql_values.specs.declared.input_value.InputValue.{InputValue}
use Rattle.graphql_values.specs.declared.input_value.InputValue.TheVariants as value
use Rattle.graphql_json.specs.Numbers.{has_32_bits}
use Rattle.graphql_lines.specs.declared.refusal.LineRefusal.{LineRefusal}
use Rattle.graphql_lines.specs.declared.refusal.LineRefusal.TheVariants.{LineTooLong, NotARequest}
use Rattle.graphql_lines.specs.declared.refusal.LineRefusal.TheVariants.{BadNumber, Memory}
use Rattle.graphql_values.specs.InputValues.{Placed, Pair, unplaced, unplaced_pair}

abbrev pub if_32_bits : ℤ → Option ℤ
if_32_bits z = if has_32_bits z then Some z else None

-- the integer of 32 bits that a number is, if it is held as a whole one
abbrev pub whole_of : Num → Option ℤ
whole_of n = option_and_then if_32_bits (as_i64 n)

-- the members of variables, of which null has none; none where they are of another kind
abbrev pub members_of_variables : Data → Option Members
members_of_variables null = Some no_members
members_of_variables (boolean b) = None
members_of_variables (number n) = None
members_of_variables (string s) = None
members_of_variables (array ds) = None
members_of_variables (object ms) = Some ms

module _ {S : Type 0} (of_bool : Bool → S) (of_int : ℤ → S) (of_text : List ℕ → S) where
  -- The value that data stands for, in no text: none where a number in it is no whole one of 32
  -- bits.
  abbrev mutual
    -- the value that JSON is, or nothing where a number is no whole one of 32 bits
    pub input_of : Data → Option (InputValue S)
    input_of null = Some value.Null
    input_of (boolean b) = Some (value.Scalar (of_bool b))
    input_of (number n) = option_map (λ z. value.Scalar (of_int z)) (whole_of n)
    input_of (string s) = Some (value.Scalar (of_text s))
    input_of (array ds) = option_map value.List (inputs_of ds)
    input_of (object ms) = option_map value.Object (fields_of ms)

    pub inputs_of : Items → Option (List (Placed (InputValue S)))
    inputs_of no_items = Some []
    inputs_of (item d ds) =
        option_and_then (λ x. option_map (λ xs. unplaced x ∷ xs) (inputs_of ds)) (input_of d)

    -- the fields that members of JSON are
    pub fields_of : Members → Option (List (Pair (InputValue S)))
    fields_of no_members = Some []
    fields_of (member k d ms) = option_and_then
        (λ x. option_map (λ ps. unplaced_pair (k, x) ∷ ps) (fields_of ms)) (input_of d)

  -- each number is a whole one of 32 bits, and by each name stands what its member means
  pub record HasValues (ms : Members) {H : Type 0}
      (variables : HashMap (String Global) (InputValue S) H) : Type 0 where
    pub fit : IsSome (fields_of ms)
    pub values : (name : List ℕ)
        → get_by_text variables name ≡ option_and_then input_of (get_member name ms)

  -- A refusal is due: nothing is asked where the JSON is of another kind, or a number in the
  -- variables of what is asked is no whole one of 32 bits.
  abbrev pub IsDue : {A : Type 0} → (A → Members) → Option A → LineRefusal → Type 0
  IsDue variables asked LineTooLong = ⊥
  IsDue variables asked NotARequest = asked ≡ None
  IsDue {A} variables asked BadNumber =
      (a : A) × (asked ≡ Some a) × (fields_of (variables a) ≡ None)
  IsDue variables asked Memory = ⊥

  -- a value that means what is asked, or the refusal that is due; want of memory tells nothing
  abbrev pub AnswersAsked : {A X : Type 0} → (A → X → Type 0) → (A → Members) → Result X LineRefusal
      → Option A → Type 0
  AnswersAsked {A} Means variables result asked =
      Answers (λ x. (a : A) × (asked ≡ Some a) × Means a x) (IsDue variables asked)
      (λ e. e ≡ Memory) result

  -- the values of what may be the members of variables
  abbrev pub AnswersVariables : {H : Type 0}
      → Result (HashMap (String Global) (InputValue S) H) LineRefusal → Option Members → Type 0
  AnswersVariables result asked =
      AnswersAsked (λ ms variables. HasValues ms variables) (λ ms. ms) result asked
