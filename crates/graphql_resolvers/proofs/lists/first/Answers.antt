use Rattle.std.proofs.Common.{take, subst}
use Rattle.graphql_resolvers.specs.Refusals.{TellsBy}
use Rattle.graphql_resolvers.specs.Answers.{cut_by, first}
use Rattle.graphql_resolvers.proofs.ToldAnswers.{asked_finds}
use Rattle.graphql_resolvers.proofs.lists.first.Goals as goal

pub returns-in-Ok : goal.returns-in-Ok
unfolding first
returns-in-Ok g c = λ asked wanted told means.
    asked_finds (λ x. x) asked (λ count. cut_by take count wanted) c.in-Ok.count c.first_if.result (subst (λ r. TellsBy (λ x. x) r asked) c.in-Ok.is told) (c.first_if.ensures wanted means)
