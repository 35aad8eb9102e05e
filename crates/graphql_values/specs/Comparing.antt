-- What is left to compare of two input values (GraphQL October 2021, 2.9 Input Values).
use Rattle.std.specs.Prelude.{◌≡◌, ◌↔◌, ℕ, List, map, Bool, IsTrue, IsPermutation}
use Rattle.std.specs.Borrow.{Bor}
use Rattle.std.specs.Cmp.Lexicographic.{slice_cmp}
use Rattle.std.specs.List.{All, sum_by}
use Rattle.std.specs.List.Sorted.{IsSortedByKey}
use Rattle.std.specs.Ordering.{nat_cmp}
use Rattle.graphql_text.specs.declared.text.Text.{Text}
use Rattle.graphql_values.specs.Counts.{value_count}
use Rattle.graphql_values.specs.declared.input_value.InputValue.{InputValue}
use Rattle.graphql_values.specs.InputValues.{Pair}
use Rattle.graphql_values.specs.SameValue.{SameValue, values_named}

-- what is lent
abbrev pub lent : {A : Type 0} → List (Bor A) → List A
lent = map (λ part. part.now)

-- the same fields in the order of their names, those of one name in the order that they had
abbrev pub IsByName : {A : Type 0} → List (Pair A) → List (Pair A) → Type 0
IsByName fields sorted =
    IsPermutation fields sorted
    × ((name : Text) → values_named name sorted ≡ values_named name fields)
    × IsSortedByKey (λ p. p.0.item) (slice_cmp nat_cmp) sorted

-- two values that have to be the same
abbrev pub Both : Type 0 → Type 0
Both S = Bor (InputValue S) × Bor (InputValue S)

module _ {S : Type 0} where
  -- how many values are left to compare with others, those within them among them
  abbrev pub left_count : List (Both S) → ℕ
  left_count waiting = sum_by (λ both. value_count both.0.now) waiting

module _ {S : Type 0} (eq : S → S → Bool) where
  -- each two are the same value
  abbrev pub AllSame : List (Both S) → Type 0
  AllSame waiting = All (λ both. SameValue S eq both.0.now both.1.now) waiting

  -- once something was compared: it stands, and what is left is the same, exactly where what was
  -- left is the same and `P` holds
  abbrev pub LeavesSame : Type 0 → List (Both S) → List (Both S) → Bool → Type 0
  LeavesSame P old new stands = (IsTrue stands × AllSame new) ↔ (AllSame old × P)
