use Rattle.graphql_schema.proofs.CheckLemmas.{known_box}
use Rattle.graphql_schema.proofs.ScalarCheckLemmas.{scalar_consistent}
use Rattle.allowed_queries.proofs.run.Goals as goal

pub new-requires-7-clause-consistent : goal.new-requires-7-clause-consistent
new-requires-7-clause-consistent c = scalar_consistent _ (λ p r said. rw (known_box c.into_dyn_box.result c.into_dyn_box.ensures.0) at said)

pub new-requires-8-clause-consistent : goal.new-requires-8-clause-consistent
new-requires-8-clause-consistent c = scalar_consistent _ (λ p r said. rw (known_box c.into_dyn_box-2.result c.into_dyn_box-2.ensures.0) at said)

pub new-requires-9-clause-consistent : goal.new-requires-9-clause-consistent
new-requires-9-clause-consistent c = scalar_consistent _ (λ p r said. rw (known_box c.into_dyn_box-3.result c.into_dyn_box-3.ensures.0) at said)

pub new-requires-10-clause-consistent : goal.new-requires-10-clause-consistent
new-requires-10-clause-consistent c = scalar_consistent _ (λ p r said. rw (known_box c.into_dyn_box-4.result c.into_dyn_box-4.ensures.0) at said)
