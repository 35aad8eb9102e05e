use Rattle.std.proofs.Common.{length}
use Rattle.graphql_registry.proofs.AnswersLemmas.{HaveAnswered}
use Rattle.graphql_registry.proofs.into_resolvable.containers.VecIntoResolvable.into_resolvable.Given as goal

abbrev pub invariant-items : goal.invariant-items
invariant-items g l =
    (goal.iterator-items g).can_next l.item-iterator × (goal.iterator-items g).is_finite l.item-iterator
    × HaveAnswered g.T.IntoResolvable.answer l.fn.self.items (length l.yielded) l.answers
