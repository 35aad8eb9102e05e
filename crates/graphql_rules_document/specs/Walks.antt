-- What a walk over fragments keeps: the path of those that it has met and not left, and the
-- components of those that it has left.
use Rattle.std.specs.Prelude.{◌≡◌, ℕ, suc, ◌<◌, ◌≤◌, List, [], ◌∷◌, Option, Some, length, reverse}
use Rattle.std.specs.Prelude.{slice_get, slice_index_or, slice_set}
use Rattle.std.specs.Option.{option_map_or}
use Rattle.graphql_rules_document.specs.Components.{Leads, Told}
use Rattle.graphql_rules_document.specs.declared.component_walk.Component.{Component}
use Rattle.graphql_rules_document.specs.declared.component_walk.ComponentWalk.{ComponentWalk}
use Rattle.graphql_rules_document.specs.declared.open_fragments.OpenFragments.{OpenFragments}
use Rattle.graphql_rules_document.specs.declared.scopes.FragmentScope.{FragmentScope}

-- below a bound, what stands in one part of a path leads to what stands before it there; the parts
-- begin at these, the last first
abbrev pub Parts : List FragmentScope → List ℕ → ℕ → List ℕ → Type 0
Parts fragments path bound [] = Unit {0}
Parts fragments path bound (start ∷ starts) =
    (start ≤ bound)
    × ((i : ℕ) → start ≤ i → suc i < bound
    → Leads fragments (slice_index_or path (suc i) 0) (slice_index_or path i 0))
    × Parts fragments path start starts

-- each fragment on a path leads to the next, and within a part of it to the one before
pub record IsPath (fragments : List FragmentScope) (path : List ℕ) (start : ℕ)
    (earlier : List ℕ) : Type 0 where
  pub forth : (i : ℕ) → suc i < length path
      → Leads fragments (slice_index_or path i 0) (slice_index_or path (suc i) 0)
  pub parts : Parts fragments path (length path) (start ∷ reverse earlier)

abbrev pub IsOpen : List FragmentScope → OpenFragments → Type 0
IsOpen fragments o = IsPath fragments o.path o.start o.earlier

-- the fragment at a place stands in the last part
pub record IsInLast (o : OpenFragments) (place : ℕ) : Type 0 where
  pub position : ℕ
  pub behind : o.start ≤ position
  pub there : slice_get o.path position ≡ Some place

-- the components, with that of the fragment at a place, if there is one
abbrev pub with_component : List (Option Component) → Option ℕ → Component → List (Option Component)
with_component components place c =
    option_map_or (λ p. slice_set components p (Some c)) place components

pub record IsWalk (fragments : List FragmentScope) (w : ComponentWalk) : Type 0 where
  pub path : IsOpen fragments w.path
  pub told : Told fragments w.components
