use Rattle.graphql_schema.proofs.CheckLemmas.{known_box}
use Rattle.graphql_schema.proofs.ScalarCheckLemmas.{scalar_consistent}
use Rattle.graphql_failures.proofs.asked.ended.Goals as goal

pub new-int-requires-clause-consistent : goal.new-int-requires-clause-consistent
new-int-requires-clause-consistent c = scalar_consistent _ (λ p r said. rw (known_box c.into_dyn_box.result c.into_dyn_box.ensures.0) at said)

pub new-string-requires-clause-consistent : goal.new-string-requires-clause-consistent
new-string-requires-clause-consistent c = scalar_consistent _ (λ p r said. rw (known_box c.into_dyn_box-in_ok-new-2.result c.into_dyn_box-in_ok-new-2.ensures.0) at said)

pub new-boolean-requires-clause-consistent : goal.new-boolean-requires-clause-consistent
new-boolean-requires-clause-consistent c = scalar_consistent _ (λ p r said. rw (known_box c.into_dyn_box-in_ok-new-3.result c.into_dyn_box-in_ok-new-3.ensures.0) at said)

pub new-id-requires-clause-consistent : goal.new-id-requires-clause-consistent
new-id-requires-clause-consistent c = scalar_consistent _ (λ p r said. rw (known_box c.into_dyn_box-in_ok-new-4.result c.into_dyn_box-in_ok-new-4.ensures.0) at said)
