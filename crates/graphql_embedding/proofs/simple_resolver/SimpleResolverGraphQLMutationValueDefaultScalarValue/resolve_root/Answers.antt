use Rattle.std.proofs.Common.{subst, sym}
use Rattle.graphql_arguments.specs.GivenValues.{arguments_told}
use Rattle.graphql_field_results.specs.Answered.{Answered, Leaves}
use Rattle.graphql_resolvers.specs.Answers.{field_result, with_reason}
use Rattle.graphql_resolvers.specs.Inputs.{inputs_of}
use Rattle.graphql_resolvers.specs.Told.{given_to}
use Rattle.graphql_resolvers.proofs.ToldAnswers.{told_answer, told_leaves}
use Rattle.graphql_embedding.proofs.simple_resolver.SimpleResolverGraphQLMutationValueDefaultScalarValue.resolve_root.Goals as goal

pub returns-clause-answer : goal.returns-clause-answer
returns-clause-answer g c =
    let answer = g.R.MutationResolver.change_answer c.args.self.now.resolver c.args.context.now c.args.field.now in
    subst (λ r. Answered (with_reason (answer (inputs_of (arguments_told c.args.arguments.now)))) r) (sym c.into_field_result.ensures)
    (subst (λ given. Answered (with_reason (answer given)) (field_result c.change.result)) c.new-given.ensures
    (told_answer (answer (given_to c.new-given.result)) c.change.result c.change.ensures.answer))

pub returns-clause-after : goal.returns-clause-after
returns-clause-after g c =
    let after = g.R.MutationResolver.change_after c.args.self.now.resolver c.args.context.now c.args.field.now in
    subst (λ r. Leaves c.args.context.now (after (inputs_of (arguments_told c.args.arguments.now))) r c.change.new.context) (sym c.into_field_result.ensures)
    (subst (λ given. Leaves c.args.context.now (after given) (field_result c.change.result) c.change.new.context) c.new-given.ensures
    (told_leaves c.args.context.now (after (given_to c.new-given.result)) c.change.new.context c.change.result c.change.ensures.after))
