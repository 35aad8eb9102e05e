-- Fragments that end when each spread is written out (GraphQL October 2021, 2.8 Fragments, 5.5.2.2
-- Fragment Spreads Must Not Form Cycles).
use Rattle.std.specs.Prelude.{◌≡◌, ◌≢◌, ℕ, zero, suc, ◌<◌, ◌≤◌, List, length}
use Rattle.std.specs.List.{All}
use Rattle.graphql_names.specs.Names.{Bytes}
use Rattle.graphql_rules_document.specs.Scopes.{FragmentScope}

module _ (fragments : List FragmentScope) where
  -- what is written out for a spread of this name ends within so many levels: within none where no
  -- fragment has the name, else a level behind what its fragments spread
  abbrev pub EndsWithin : ℕ → Bytes → Type 0
  EndsWithin zero name = All (λ f. f.name ≢ name) fragments
  EndsWithin (suc n) name =
      All (λ f. f.name ≡ name → All (λ s. EndsWithin n s.name) f.spreads) fragments

  -- the ranks of fragments go from one to the number of them, and each ranks above what it spreads
  abbrev pub IsRanking : (Bytes → ℕ) → Type 0
  IsRanking rank = All (λ f. (0 < rank f.name)
      × (rank f.name ≤ length fragments)
      × All (λ s. rank s.name < rank f.name) f.spreads) fragments
