-- Names in a row, and items that have them (GraphQL October 2021, 2.1.9 Names).
use Rattle.std.specs.Prelude.{◌≡◌, ℕ, List, map, Bool, true, false, Option, MatchOption, nat_lt}
use Rattle.std.specs.Borrow.{Bor}
use Rattle.std.specs.Cmp.Lexicographic.{slice_cmp}
use Rattle.std.specs.List.{find, count_by, list_any}
use Rattle.std.specs.List.Sorted.{IsStrictlySortedBy}
use Rattle.std.specs.Option.{option_map_or}
use Rattle.std.specs.Ordering.{nat_cmp}
use Rattle.std.specs.Str.{bytes_eq}

-- a name as its bytes
abbrev pub Bytes : Type 0
Bytes = List ℕ

-- the name is one of these
abbrev pub is_one_of : List Bytes → Bytes → Bool
is_one_of names name = list_any (bytes_eq name) names

-- the name stands at two places or more
abbrev pub stands_twice : List Bytes → Bytes → Bool
stands_twice names name = nat_lt 1 (count_by (bytes_eq name) names)

-- a name at which something stands, or none where it stands at none
abbrev pub Finds : (Bytes → Bool) → Option (Bor Bytes) → Type 0
Finds stands found =
    MatchOption found ((name : Bytes) → stands name ≡ false) (λ name. stands name.now ≡ true)

-- there is an item, and it passes the test
abbrev pub passes : {A : Type 0} → (A → Bool) → Option A → Bool
passes test item = option_map_or test item false

module _ {A : Type 0} (name_of : A → Bytes) where
  -- the item has this name
  abbrev pub is_named : Bytes → A → Bool
  is_named name item = bytes_eq (name_of item) name

  -- the first item of a name
  abbrev pub named : List A → Bytes → Option A
  named items name = find (is_named name) items

  -- the names ascend by their bytes, so that each stands once
  abbrev pub IsByName : List A → Type 0
  IsByName items = IsStrictlySortedBy (slice_cmp nat_cmp) (map name_of items)
