use Rattle.std.proofs.Common.{inr, option_map, rules}
use Rattle.std.specs.HashMap.{get_by_text}
use Rattle.graphql_schema.specs.Scalars.{Scalars}
use Rattle.graphql_executor.specs.Resolvers.{Resolver}
use Rattle.graphql_executor.proofs.Running.{schema-begun, schema-responds}
use Rattle.graphql_executor.proofs.validated.execute_validated_query.Goals as goal

pub returns-in-Ok-clause-answered : goal.returns-in-Ok-clause-answered
returns-in-Ok-clause-answered g c =
    let v = g.S.ScalarValue in
    let s : Scalars g.row.S.Denot g.row.S-Check.Denot = record {
      reads = g.S.ParseScalarValue.reads;
      of_bool = v.of_bool;
      of_int = v.of_int;
      of_text = v.of_text;
      eq = g.S.PartialEq.eq;
      answer = v.answer;
      accepts = g.S.Check.Check.accepts;
    } in
    let q = g.R.GraphQLValue in
    let resolver = c.args.resolver.now in
    let r : Resolver g.row.S.Denot g.row.R-Node.Denot g.row.R-Context.Denot = record {
      root = q.root_node resolver;
      type_of = q.type_of resolver;
      answer = q.answer resolver;
      changes = g.R.GraphQLMutationValue.changes resolver;
    } in
    let root = option_map (λ name. name.now) c.in_ok-root.root in
    record {
      root = root;
      served = search rules;
      responds = schema-responds s r c.args.document.now (get_by_text c.args.variables.now) c.args.operation.now.item root
          c.args.context.now c.execute_operation-executed.new.context c.schema-schema.result.now c.args.root_node.now.schema c.schema-schema.ensures
          _ _ _ c.in-Ok.ensures.responds;
    }

pub returns-in-Err-clause-unanswered : goal.returns-in-Err-clause-unanswered
returns-in-Err-clause-unanswered g c =
    let v = g.S.ScalarValue in
    let s : Scalars g.row.S.Denot g.row.S-Check.Denot = record {
      reads = g.S.ParseScalarValue.reads;
      of_bool = v.of_bool;
      of_int = v.of_int;
      of_text = v.of_text;
      eq = g.S.PartialEq.eq;
      answer = v.answer;
      accepts = g.S.Check.Check.accepts;
    } in
    let q = g.R.GraphQLValue in
    let resolver = c.args.resolver.now in
    let r : Resolver g.row.S.Denot g.row.R-Node.Denot g.row.R-Context.Denot = record {
      root = q.root_node resolver;
      type_of = q.type_of resolver;
      answer = q.answer resolver;
      changes = g.R.GraphQLMutationValue.changes resolver;
    } in
    let root = option_map (λ name. name.now) c.in_ok-root.root in
    inr (record {
      root = root;
      served = search rules;
      begun = schema-begun s r c.args.document.now (get_by_text c.args.variables.now) c.args.operation.now.item root
          c.args.context.now c.execute_operation-executed.new.context c.schema-schema.result.now c.args.root_node.now.schema c.schema-schema.ensures
          c.in-Err.ensures.begun;
    })
