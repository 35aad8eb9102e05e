-- Which values JSON gives (GraphQL October 2021, 7.2 Serialization Format; RFC 8259).
use Rattle.std.specs.Prelude.{◌≡◌, ◌↔◌, ℕ, ℤ, Bool, List, [], ◌∷◌, ◌++◌, Contains, Some, None}
use Rattle.serde_json.specs.Data.{Num, Data, null, boolean, number, string, array, object, Items}
use Rattle.serde_json.specs.Data.{no_items, item, Members, no_members, member}
use Rattle.graphql_values.specs.declared.input_value.InputValue.{InputValue}
use Rattle.graphql_values.specs.Variables.{names_of_variables}
use Rattle.graphql_lines.specs.Variables.{whole_of, input_of, fields_of}

-- the numbers in data, from left to right
abbrev mutual
  pub numbers_in : Data → List Num
  numbers_in null = []
  numbers_in (boolean b) = []
  numbers_in (number n) = n ∷ []
  numbers_in (string s) = []
  numbers_in (array ds) = numbers_in_items ds
  numbers_in (object ms) = numbers_in_members ms

  pub numbers_in_items : Items → List Num
  numbers_in_items no_items = []
  numbers_in_items (item d ds) = numbers_in d ++ numbers_in_items ds

  pub numbers_in_members : Members → List Num
  numbers_in_members no_members = []
  numbers_in_members (member k d ms) = numbers_in d ++ numbers_in_members ms

-- one of these numbers is no whole one of 32 bits
abbrev pub HasBadNumber : List Num → Type 0
HasBadNumber ns = (n : Num) × Contains ns n × (whole_of n ≡ None)

module _ {S : Type 0} (of_bool : Bool → S) (of_int : ℤ → S) (of_text : List ℕ → S) where
  -- data stands for no value exactly where a number anywhere in it is no whole one of 32 bits, and
  -- so do the members of variables (3.5.1 Int)
  abbrev pub BadNumbersAreRefused : Type 0
  BadNumbersAreRefused =
      ((d : Data) → (input_of of_bool of_int of_text d ≡ None) ↔ HasBadNumber (numbers_in d))
      × ((ms : Members)
      → (fields_of of_bool of_int of_text ms ≡ None) ↔ HasBadNumber (numbers_in_members ms))

  -- in a value that data stands for stands no variable (2.10 Variables)
  abbrev pub JsonHoldsNoVariable : Type 0
  JsonHoldsNoVariable = (d : Data) (v : InputValue S) → input_of of_bool of_int of_text d ≡ Some v
      → names_of_variables v ≡ []
