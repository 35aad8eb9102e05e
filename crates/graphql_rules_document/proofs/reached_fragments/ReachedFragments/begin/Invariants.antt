use Rattle.std.proofs.Common.{◌≡◌, [], false, map, take}
use Rattle.graphql_rules_document.proofs.reached_fragments.ReachedFragments.begin.Given as goal

abbrev pub invariant-fragments : goal.invariant-fragments
invariant-fragments l = (l.self.marks ≡ map (λ _. false) (take l._fragment-index l._fragment-items)) × (l.self.waiting ≡ [])
