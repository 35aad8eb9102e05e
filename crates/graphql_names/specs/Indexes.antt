-- Items as they were declared, and the places by which they are found by their names.
use Rattle.std.specs.Prelude.{ℕ, List, [], length, IsPermutation, slice_get}
use Rattle.std.specs.Cmp.Lexicographic.{slice_cmp}
use Rattle.std.specs.List.{range_with_len}
use Rattle.std.specs.List.Sorted.{IsSorted}
use Rattle.std.specs.Option.{option_map_or}
use Rattle.std.specs.Ordering.{nat_cmp, ordering_then}
use Rattle.std.specs.declared.cmp.Ordering.{Ordering}
use Rattle.graphql_names.specs.Names.{Bytes}

module _ {A : Type 0} (name_of : A → Bytes) (items : List A) where
  -- the name of the item at a place; past the end the empty one
  abbrev pub name_at : ℕ → Bytes
  name_at place = option_map_or name_of (slice_get items place) []

  -- places compare by the names that stand at them, and where these are one by themselves
  abbrev pub place_cmp : ℕ → ℕ → Ordering
  place_cmp place other =
      ordering_then (slice_cmp nat_cmp (name_at place) (name_at other)) (nat_cmp place other)

  -- the place of each item, in that order
  abbrev pub IsIndex : List ℕ → Type 0
  IsIndex places =
      IsPermutation (range_with_len 0 (length items)) places × IsSorted place_cmp places
