use Rattle.graphql_schema.specs.Scalars.{Scalars}
use Rattle.graphql_executor.specs.Resolvers.{Resolver}
use Rattle.graphql_service.proofs.AnsweredToo.{plain-is-answered-alike}
use Rattle.graphql_service.proofs.meaning.plain_is_answered_alike.Goals as goal

pub returns : goal.returns
returns g c =
    let s : Scalars g.row.S.Denot g.row.S-Check.Denot = record {
      reads = g.S.ParseScalarValue.reads;
      of_bool = g.S.ScalarValue.of_bool;
      of_int = g.S.ScalarValue.of_int;
      of_text = g.S.ScalarValue.of_text;
      eq = g.S.PartialEq.eq;
      answer = g.S.ScalarValue.answer;
      accepts = g.S.Check.Check.accepts;
    } in
    let q = g.R.GraphQLValue in
    let resolver = c.args.resolver.now in
    let r : Resolver g.row.S.Denot g.row.R-Node.Denot g.row.R-Context.Denot = record {
      root = q.root_node resolver;
      type_of = q.type_of resolver;
      answer = q.answer resolver;
      changes = g.R.GraphQLMutationValue.changes resolver;
    } in
    plain-is-answered-alike s c.args.root_node.now r c.plain_texts_are_accepted.ensures
    c.unused_values_are_not_asked.ensures
    c.one_operation_is_executed.ensures c.resolvers_are_lawful.ensures
    c.plain_runs_are_alike.ensures c.plain_document_is_plain.ensures
