use Rattle.graphql_schema.specs.Scalars.{Scalars}
use Rattle.graphql_executor.specs.Resolvers.{Resolver}
use Rattle.graphql_service.proofs.SameMeaning.{plain-means-the-same}
use Rattle.graphql_service.proofs.meaning.plain_means_the_same.Goals as goal

pub returns : goal.returns
returns g c =
    let s : Scalars g.row.S.Denot g.row.S-Check.Denot = record {
      reads = g.S.ParseScalarValue.reads;
      of_bool = g.S.ScalarValue.of_bool;
      of_int = g.S.ScalarValue.of_int;
      of_text = g.S.ScalarValue.of_text;
      eq = g.S.PartialEq.eq;
      answer = g.S.ScalarValue.answer;
      accepts = g.S.Check.Check.accepts;
    } in
    let q = g.R.GraphQLValue in
    let resolver = c.args.resolver.now in
    let r : Resolver g.row.S.Denot g.row.R-Node.Denot g.row.R-Context.Denot = record {
      root = q.root_node resolver;
      type_of = q.type_of resolver;
      answer = q.answer resolver;
      changes = g.R.GraphQLMutationValue.changes resolver;
    } in
    plain-means-the-same s c.args.root_node.now r c.plain_texts_are_documents.ensures
    c.one_operation_is_executed.ensures c.resolvers_are_lawful.ensures
    c.plain_operations_yield_alike.ensures
