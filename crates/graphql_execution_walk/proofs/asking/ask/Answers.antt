use Rattle.graphql_execution_walk.specs.Engines.{engine_over}
use Rattle.graphql_execution_walk.proofs.AskedLemmas.{own-typed, part-answers, told-answers}
use Rattle.graphql_execution_walk.proofs.asking.ask.Goals as goal

pub resolve_field-requires-clause-asked : goal.resolve_field-requires-clause-asked
resolve_field-requires-clause-asked g c = record {
  object = c.args.object.now;
  typed = own-typed _ _ _ _ c.args.node.now c.args.object.now c.in-Own.is c.requires.typed;
  field = c.args.field.now;
  stands = c.requires.stands;
  named = c.as_str-name.ensures;
  values = c.in_ok-arguments.ensures;
}

pub returns-in-Some : goal.returns-in-Some
unfolding engine_over
returns-in-Some g c =
    let s = g.S.ScalarValue in
    let resolves = g.R.GraphQLValue.answer c.args.resolver.now c.args.executor.now.context.now in
    told-answers s.of_text s.of_bool s.answer c.args.schema.now _ resolves c.args.node.now c.args.object.now _ _ _ _
    c.in_ok-told.field-0 c.requires.schema c.as_str-name.ensures c.in_ok-arguments.ensures c.in_ok-told.ensures
    c.in-Some.told c.in_ok-of_schema.field-0 c.in-Some.is c.in_ok-of_schema.ensures

pub returns : goal.returns
unfolding engine_over
returns g c =
    let s = g.S.ScalarValue in
    let resolves = g.R.GraphQLValue.answer c.args.resolver.now c.args.executor.now.context.now in
    part-answers s.of_text s.of_bool s.answer c.args.schema.now _ resolves c.args.node.now c.args.object.now _ _ _ _
    c.in_ok-told.field-0 c.requires.schema c.as_str-name.ensures c.in_ok-arguments.ensures c.in_ok-told.ensures
    c.in-Part.part c.in_ok-answer-in-Part.answer c.in_ok-of_schema-in-Part.field-0 c.in_default.is c.in-Part.is
    c.in_ok-answer-in-Part.ensures c.in_ok-of_schema-in-Part.ensures
