use Rattle.graphql_rules_document.specs.Walks.{IsWalk}
use Rattle.graphql_rules_document.proofs.component_walk.components_of.Given as goal

abbrev pub invariant-fragments : goal.invariant-fragments
invariant-fragments l = IsWalk l.index.fragments.now l.walk
