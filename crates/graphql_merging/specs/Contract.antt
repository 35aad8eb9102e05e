-- What the rule that fields merge promises of its errors (GraphQL October 2021, 5.3.2 Field
-- Selection Merging).
use Rattle.std.specs.Prelude.{◌≡◌, Bool, List, []}
use Rattle.std.specs.List.{All, Any, Contains}
use Rattle.graphql_schema.specs.declared.meta.MetaType.{MetaType}
use Rattle.graphql_rule_errors.specs.Places.{Places}
use Rattle.graphql_merging.specs.Members.{Member}
use Rattle.graphql_merging.specs.Merging.{SameField, Merge, Merging, Together}
use Rattle.graphql_merging.specs.Sets.{Set, members_of, directs_of}
use Rattle.graphql_merging.specs.Told.{Names, later_pairs}

module _ {S C : Type 0} (eq : S → S → Bool) (types : List (MetaType S C))
    (sets : List (Set S C)) where
  -- two fields that stand together in a set and do not merge there
  abbrev pub IsConflict : Member S C → Member S C → Type 0
  IsConflict a b = (set : Set S C)
      × Contains sets set
      × ((x : Bool) × Together eq types (members_of types set) x a b × (Merge eq types x a b → ⊥))

  -- each error names two fields that stand together and do not merge
  abbrev pub IsSound : Places → Type 0
  IsSound errors =
      All (λ e. (a : Member S C) × (b : Member S C) × IsConflict a b × Names e a b) errors

  -- each two fields of one response key that stand directly in one set and differ in names or
  -- arguments are named
  abbrev pub IsDirect : Places → Type 0
  IsDirect errors = (set : Set S C) (a b : Member S C) → Contains sets set
      → Contains (later_pairs (directs_of types set)) (a, b)
      → a.head.key ≡ b.head.key → (SameField eq types a b → ⊥) → Any (λ e. Names e a b) errors

  -- without errors each set merges
  abbrev pub IsComplete : Places → Type 0
  IsComplete errors = errors ≡ [] → All (λ set. Merging eq types (members_of types set)) sets
