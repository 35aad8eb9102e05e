-- What a search for the fragments that are reached keeps, by the names of the fragments.
use Rattle.std.specs.Prelude.{◌≡◌, ℕ, ◌+◌, ◌<◌, ◌≤◌, ◌⊎◌, Bool, true, false, not, List, [], ◌++◌}
use Rattle.std.specs.Prelude.{length, map, slice_get, slice_index_or, count_by}
use Rattle.std.specs.List.{Contains}
use Rattle.std.specs.Option.{option_map_or}
use Rattle.graphql_names.specs.Names.{Bytes, is_one_of}
use Rattle.graphql_rules_document.specs.declared.scopes.FragmentScope.{FragmentScope}
use Rattle.graphql_rules_document.specs.declared.scopes.Spread.{Spread}

-- the names of spreads, in order
abbrev pub spread_names : List Spread → List Bytes
spread_names = map (λ s. s.name.now)

-- what the fragment at a place spreads
abbrev pub spread_names_at : List FragmentScope → ℕ → List Bytes
spread_names_at fragments place =
    option_map_or (λ f. spread_names f.spreads) (slice_get fragments place) []

abbrev pub name_at : List Bytes → ℕ → Bytes
name_at names place = slice_index_or names place []

-- of each name, whether it is found
abbrev pub marks_of : List Bytes → List Bytes → List Bool
marks_of names found = map (is_one_of found) names

abbrev pub unmarked : List Bool → ℕ
unmarked = count_by not

-- where the names `found` were marked, those of `more` are too, and the places of these names wait
pub record Marked (names found more : List Bytes) (old : List Bool) (before : List ℕ)
    (new : List Bool) (after : List ℕ) : Type 0 where
  pub marks : new ≡ marks_of names (found ++ more)
  pub stays : (place : ℕ) → Contains before place → Contains after place
  pub waits : (place : ℕ) → place < length names → is_one_of more (name_at names place) ≡ true
      → is_one_of found (name_at names place) ≡ false → Contains after place
  pub only : (place : ℕ) → Contains after place
      → Contains before place
      ⊎ (is_one_of more (name_at names place) ≡ true)
  pub left : unmarked new + length after ≤ unmarked old + length before

-- the same, whatever was found
abbrev pub Marks : List Bytes → List Bytes → List Bool → List ℕ → List Bool → List ℕ → Type 0
Marks names more old before new after =
    (found : List Bytes) → old ≡ marks_of names found → Marked names found more old before new after
