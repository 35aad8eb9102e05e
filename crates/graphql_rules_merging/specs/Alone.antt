-- Selection sets in which no two fields of one response key stand together (GraphQL October 2021,
-- 5.3.2 Field Selection Merging).
use Rattle.std.specs.Prelude.{◌≡◌, ℕ, Bool, true, not, ◌&&◌, List, [], ◌∷◌}
use Rattle.std.specs.List.{Contains, list_any}
use Rattle.std.specs.Str.{bytes_eq}
use Rattle.graphql_bundles.specs.Groups.{key_at}
use Rattle.graphql_merging.specs.Pieces.{Pieces, PieceField}
use Rattle.graphql_merging.specs.declared.table.WrittenField.{WrittenField}
use Rattle.graphql_merging.specs.declared.table.WrittenSet.{WrittenSet}
use Rattle.graphql_rules_merging.specs.Comparing.{HasOneKey}

module _ {S C : Type 0} where
  -- each field has another response key than those behind it
  abbrev pub keys_differ : List (WrittenField S C) → Bool
  keys_differ [] = true
  keys_differ (f ∷ fs) = not (list_any (λ g. bytes_eq (key_at f) (key_at g)) fs) && keys_differ fs

  -- no fragment stands in the set, and no two of its fields have one response key
  pub record SetStandsAlone (set : WrittenSet S C) : Type 0 where
    pub inner : set.inner ≡ []
    pub differ : keys_differ set.fields ≡ true

  -- so it is with each set of a table, as a document writes them
  pub record AllStandAlone (t : Pieces S C) : Type 0 where
    pub inner : (p : ℕ) → t.inner p ≡ []
    pub one : (p : ℕ) (f g : PieceField S C) → Contains (t.direct p) f → Contains (t.direct p) g
        → HasOneKey (f, g) → f ≡ g
