use Rattle.std.specs.HashMap.{get_by_text}
use Rattle.graphql_executor.specs.Requests.{Scalars}
use Rattle.graphql_executor.specs.Resolvers.{Resolver}
use Rattle.graphql_service_tests.proofs.AskedAgain.{both-ways}
use Rattle.graphql_service_tests.proofs.service.asked_again.answered_both_ways.Goals as goal

pub returns : goal.returns
returns g c = λ same.
    let s : Scalars g.row.S.Denot g.row.S-Check.Denot = record {
      reads = g.S.ParseScalarValue.reads;
      of_bool = g.S.ScalarValue.of_bool;
      of_int = g.S.ScalarValue.of_int;
      of_text = g.S.ScalarValue.of_text;
      eq = g.S.PartialEq.eq;
      answer = g.S.ScalarValue.answer;
      accepts = g.S.Check.Check.accepts;
    } in
    let resolver = c.args.resolver.now in
    let q = g.R.GraphQLValue in
    let r : Resolver g.row.S.Denot g.row.R-Node.Denot g.row.R-Context.Denot = record {
      root = q.root_node resolver;
      type_of = q.type_of resolver;
      answer = q.answer resolver;
      changes = g.R.GraphQLMutationValue.changes resolver;
    } in
    both-ways s c.args.root_node.now r c.plain_means_the_same.ensures _ _ _ _
    (get_by_text c.args.request.now.variables) _ _ c.as_str-query.utf8 c.as_str-query.ensures.value
    c.operation_name_of-name.ensures c.as_str-text.ensures.value c.in-Ok.ensures.plain.plain
    _ _ _ _ _ _ _ _ _ same c.in-Ok-execute_sync.ensures.answered
    c.in-Ok-execute_sync-2.ensures.answered
