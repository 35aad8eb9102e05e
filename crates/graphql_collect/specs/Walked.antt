-- What a walk with visited fragments leaves behind.
use Rattle.std.specs.Prelude.{◌≡◌, ◌≤◌, ◌⊎◌, ℕ, Bool, true, List, [], ◌∷◌}
use Rattle.std.specs.List.{Contains}
use Rattle.graphql_written_out.specs.Trees.{Directives, Tree, height}
use Rattle.graphql_names.specs.Names.{Bytes}
use Rattle.graphql_written_out.specs.Fields.{Found, fields}
use Rattle.graphql_written_out.specs.Repeats.{AddsButRepeats}
use Rattle.graphql_collect.specs.Walks.{Walk, Meanings, is_visited}

module _ {S : Type 0} (drops : Directives S → Bool) (is_below : Bytes → Bool)
    (means : Meanings S) where
  -- the fields of a fragment were found
  abbrev pub Covered : Bytes → List (Found S) → Type 0
  Covered name found =
      (x : Found S) → Contains (fields drops is_below (means name).1) x → Contains found x

  -- each visited fragment that applies is covered, but for those around a set of this height
  abbrev pub Ready : ℕ → Walk S → Type 0
  Ready h s = (name : Bytes) → is_visited s name ≡ true → is_below (means name).0 ≡ true
      → (h ≤ height (means name).1) ⊎ Covered name s.found

  -- each visited fragment that applies is covered
  abbrev pub Complete : Walk S → Type 0
  Complete s = (name : Bytes) → is_visited s name ≡ true → is_below (means name).0 ≡ true
      → Covered name s.found

  -- fields are added but for repeats; the fragments that came in are covered
  pub record Walked (xs : List (Found S)) (s t : Walk S) : Type 0 where
    pub adds : AddsButRepeats (Found S) s.found xs t.found
    pub grew : (name : Bytes) → is_visited t name ≡ true → is_below (means name).0 ≡ true
        → (is_visited s name ≡ true) ⊎ Covered name t.found

  -- once what is left of open sets is walked, the innermost first, these fields are walked from the
  -- start
  abbrev pub WalksAll : List (Found S) → Walk S → List (Tree S) → Walk S → Type 0
  WalksAll xs start [] s = Walked xs start s
  WalksAll xs start (t ∷ ts) s = Ready (height t) s
      × ((m : Walk S) → Walked (fields drops is_below t) s m → WalksAll xs start ts m)
