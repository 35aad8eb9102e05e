-- Which fragments reach each other: what components of fragments, and their numbers, tell (GraphQL
-- October 2021, 5.5.2.2 Fragment Spreads Must Not Form Cycles).
use Rattle.std.specs.Prelude.{◌≡◌, ℕ, ◌≤◌, List, Option, Some, None, map, slice_index_or, IsTrue}
use Rattle.std.specs.List.{AllByRecursion as Each}
use Rattle.std.specs.Option.{option_map_or}
use Rattle.graphql_names.specs.Names.{Bytes}
use Rattle.graphql_rules_document.specs.declared.component_walk.Component.{Component}
use Rattle.graphql_rules_document.specs.declared.components.FragmentComponents.{FragmentComponents}
use Rattle.graphql_rules_document.specs.declared.scopes.FragmentScope.{FragmentScope}
use Rattle.graphql_rules_document.specs.Lent.{fragment_of}
use Rattle.graphql_rules_document.specs.Named.{fragment_names, last_place}
use Rattle.graphql_rules_document.specs.Reached.{IsReached}
use Rattle.graphql_rules_document.specs.Scopes.{Spread}
use Rattle.graphql_rules_document.specs.Searches.{name_at}

-- what reaches the name at one place, reaches the name at the other
pub record Leads (fragments : List FragmentScope) (here there : ℕ) : Type 0 where
  pub on : (from : List Spread)
      → IsReached (map fragment_of fragments) from (name_at (fragment_names fragments) here)
      → IsReached (map fragment_of fragments) from (name_at (fragment_names fragments) there)

-- each fragment with a component, and the component's first, lead to each other
pub record Told (fragments : List FragmentScope)
    (components : List (Option Component)) : Type 0 where
  pub down : (place : ℕ) (c : Component) → slice_index_or components place None ≡ Some c
      → Leads fragments c.first place
  pub up : (place : ℕ) (c : Component) → slice_index_or components place None ≡ Some c
      → Leads fragments place c.first

-- the component that is told of a name
abbrev pub component_of : List FragmentScope → List (Option Component) → Bytes → Option Component
component_of fragments components name =
    option_map_or (λ place. slice_index_or components place None)
    (last_place (fragment_names fragments) name) None

abbrev pub number_in : Option Component → ℕ
number_in o = option_map_or (λ c. c.number) o 0

abbrev pub number_of : List FragmentScope → List (Option Component) → Bytes → ℕ
number_of fragments components name = number_in (component_of fragments components name)

pub record IsSame (one other : Option Component) : Type 0 where
  pub first : Component
  pub second : Component
  pub one_is : one ≡ Some first
  pub other_is : other ≡ Some second
  pub same : first.first ≡ second.first

-- the fragment spreads none of a greater number
abbrev pub Falls : List FragmentScope → List (Option Component) → FragmentScope → Type 0
Falls fragments components f = Each (λ s.
    number_of fragments components s.name.now ≤ number_of fragments components f.name.now) f.spreads

abbrev pub Falling : List FragmentScope → List (Option Component) → Type 0
Falling fragments components = Each (Falls fragments components) fragments

pub record IsComponents (fragments : List FragmentScope) (c : FragmentComponents) : Type 0 where
  pub told : Told fragments c.components
  pub falling : IsTrue c.falls → Falling fragments c.components
