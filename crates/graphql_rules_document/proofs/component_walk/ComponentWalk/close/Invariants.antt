use Rattle.std.proofs.Common.{◌≡◌, Some, slice_get}
use Rattle.graphql_rules_document.specs.Components.{Told}
use Rattle.graphql_rules_document.specs.Walks.{IsOpen}
use Rattle.graphql_rules_document.proofs.component_walk.ComponentWalk.close.Given as goal

abbrev pub invariant-members : goal.invariant-members
invariant-members l =
    slice_get l.initial.self.path.path l.initial.self.path.start ≡ Some l.first → IsOpen l.index.fragments.now l.initial.self.path → Told l.index.fragments.now l.initial.self.components
    → (l.self.path ≡ l.initial.self.path) × Told l.index.fragments.now l.self.components
