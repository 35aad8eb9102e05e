use Rattle.std.proofs.Common.{◌≡◌, ℕ, None, get_or}
use Rattle.graphql_rules_document.proofs.component_walk.ComponentWalk.new.Given as goal

abbrev pub invariant-fragments : goal.invariant-fragments
invariant-fragments l = (place : ℕ) → get_or l.components place None ≡ None
