use Rattle.graphql_schema.specs.Scalars.{Scalars}
use Rattle.graphql_executor.specs.Resolvers.{Resolver}
use Rattle.graphql_service.proofs.JoinedData.{parts-of-queries-join}
use Rattle.graphql_service.proofs.laws.parts_of_queries_join.Goals as goal

pub returns : goal.returns
returns g c =
    let s : Scalars g.row.S.Denot g.row.S-Check.Denot = record {
      reads = g.S.ParseScalarValue.reads;
      of_bool = g.S.ScalarValue.of_bool;
      of_int = g.S.ScalarValue.of_int;
      of_text = g.S.ScalarValue.of_text;
      eq = g.S.PartialEq.eq;
      answer = g.S.ScalarValue.answer;
      accepts = g.S.Check.Check.accepts;
    } in
    let q = g.R.GraphQLValue in
    let resolver = c.args.service.now.resolver in
    let r : Resolver g.row.S.Denot g.row.R-Node.Denot g.row.R-Context.Denot = record {
      root = q.root_node resolver;
      type_of = q.type_of resolver;
      answer = q.answer resolver;
      changes = g.R.GraphQLMutationValue.changes resolver;
    } in
    parts-of-queries-join s c.args.service.now.root_node r c.queries_stand.ensures c.join_of_two_sets.ensures
