use Rattle.graphql_registry.proofs.AnswersLemmas.{HaveAnswered}
use Rattle.graphql_registry.proofs.into_resolvable.containers.RefSliceIntoResolvable.into_resolvable.Given as goal

abbrev pub invariant-items : goal.invariant-items
invariant-items g l = HaveAnswered g.T.IntoResolvable.answer l.self l.item-index l.answers
