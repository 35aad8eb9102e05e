use Rattle.graphql_rules_document.specs.Walks.{IsWalk}
use Rattle.graphql_rules_document.proofs.component_walk.ComponentWalk.follow_all.Given as goal

abbrev pub invariant-steps : goal.invariant-steps
invariant-steps l = IsWalk l.index.fragments.now l.initial.self → IsWalk l.index.fragments.now l.self
