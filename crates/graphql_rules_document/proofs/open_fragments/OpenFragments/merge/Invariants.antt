use Rattle.std.proofs.Common.{◌≡◌, ℕ, ◌≤◌, List, Some, length, slice_get}
use Rattle.graphql_rules_document.specs.Components.{Leads}
use Rattle.graphql_rules_document.specs.Walks.{IsOpen}
use Rattle.graphql_rules_document.specs.declared.scopes.FragmentScope.{FragmentScope}
use Rattle.graphql_rules_document.proofs.open_fragments.OpenFragments.merge.Given as goal

abbrev pub invariant-parts : goal.invariant-parts
invariant-parts l =
    (fragments : List FragmentScope) (from there position : ℕ) → IsOpen fragments l.initial.self → l.initial.self.start ≤ position → slice_get l.initial.self.path position ≡ Some from → slice_get l.initial.self.path l.to ≡ Some there → Leads fragments from there
    → (l.self.path ≡ l.initial.self.path) × IsOpen fragments l.self × (l.self.start ≤ position)

abbrev pub decreases-parts : goal.decreases-parts
decreases-parts l = length l.self.earlier
