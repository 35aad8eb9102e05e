use Rattle.std.proofs.Common.{◌∙◌}
use Rattle.graphql_schema.proofs.CheckLemmas.{known_box}
use Rattle.graphql_schema.proofs.ScalarCheckLemmas.{scalar_consistent, scalar_accepted}
use Rattle.graphql_tests.proofs.validation.scalar_checks.boolean_accepts_truth_values.Goals as goal

pub new-boolean-requires-clause-consistent : goal.new-boolean-requires-clause-consistent
new-boolean-requires-clause-consistent c = scalar_consistent _ (λ p r said. rw (known_box c.into_dyn_box.result c.into_dyn_box.ensures.0) at said)

pub decides_conditions-requires : goal.decides_conditions-requires
decides_conditions-requires c =
    let is = c.new-boolean.ensures ∙ known_box c.into_dyn_box.result c.into_dyn_box.ensures.0 in
    record { exactly = scalar_accepted _ (λ p r said. rw is at said) (λ p held. rw is held) }
