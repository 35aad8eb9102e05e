use Rattle.std.proofs.Common.{drop, subst}
use Rattle.graphql_resolvers.specs.Refusals.{TellsBy}
use Rattle.graphql_resolvers.specs.Answers.{cut_by, skip}
use Rattle.graphql_resolvers.proofs.ToldAnswers.{asked_finds}
use Rattle.graphql_resolvers.proofs.lists.skip.Goals as goal

pub returns-in-Ok : goal.returns-in-Ok
unfolding skip
returns-in-Ok g c = λ asked wanted told means.
    asked_finds (λ x. x) asked (λ count. cut_by drop count wanted) c.in-Ok.count c.skip_if.result (subst (λ r. TellsBy (λ x. x) r asked) c.in-Ok.is told) (c.skip_if.ensures wanted means)
