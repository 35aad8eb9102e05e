use Rattle.graphql_schema.proofs.CheckLemmas.{known_box}
use Rattle.graphql_cases.proofs.CheckedLemmas.{accepted_consistent, captured}
use Rattle.graphql_cases.proofs.schemas.answer_next.Goals as goal

pub new-requires-in-loop-turn-clause-consistent : goal.new-requires-in-loop-turn-clause-consistent
new-requires-in-loop-turn-clause-consistent c =
    let box = c.into_dyn_box.result in
    let is = c.into_dyn_box.ensures.0 in
    accepted_consistent (captured box is).0 (λ p r said. rw (known_box box is) at said)
