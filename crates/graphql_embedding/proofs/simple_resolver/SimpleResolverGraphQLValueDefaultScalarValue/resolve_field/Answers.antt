use Rattle.std.proofs.Common.{subst, sym}
use Rattle.graphql_arguments.specs.GivenValues.{arguments_told}
use Rattle.graphql_field_results.specs.Answered.{Answered}
use Rattle.graphql_resolvers.specs.Answers.{field_result, with_reason}
use Rattle.graphql_resolvers.specs.Inputs.{inputs_of}
use Rattle.graphql_resolvers.specs.Told.{given_to}
use Rattle.graphql_resolvers.proofs.ToldAnswers.{told_answer}
use Rattle.graphql_embedding.proofs.simple_resolver.SimpleResolverGraphQLValueDefaultScalarValue.resolve_field.Goals as goal

pub returns : goal.returns
returns g c =
    let answer = g.R.Resolver.answer c.args.self.now.resolver c.args.executor.now.context.now c.args.node.now c.args.field.now in
    subst (λ r. Answered (with_reason (answer (inputs_of (arguments_told c.args.arguments.now)))) r) (sym c.into_field_result.ensures)
    (subst (λ given. Answered (with_reason (answer given)) (field_result c.resolve-answer.result)) c.new-given.ensures
    (told_answer (answer (given_to c.new-given.result)) c.resolve-answer.result c.resolve-answer.ensures))
