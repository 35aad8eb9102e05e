use Rattle.std.proofs.Common.{◌∙◌}
use Rattle.graphql_executor.specs.Resolvers.{Resolver}
use Rattle.graphql_stores_tests.proofs.StoredAsked.{answered-over, exactly-over}
use Rattle.graphql_stores_tests.proofs.stored.answered_as_stored_by_service.Goals as goal

pub returns-clause-exactly : goal.returns-clause-exactly
returns-clause-exactly g c =
    exactly-over _ c.args.root_node c.root_node-root.result.now (c.root_node-root.ensures ∙ c.in_ok-service.ensures.0.root_node)
    c.in_ok-service.ensures.1 c.args.store.now 10000 c.args.request.now c.answered_as_stored.result
    c.answered_as_stored.ensures.exactly

pub returns-clause-alike : goal.returns-clause-alike
returns-clause-alike g c =
    let q = g.R.GraphQLValue in
    let resolving : g.row.R.Denot → Resolver g.row.S.Denot g.row.R-Node.Denot g.row.R-Context.Denot = λ resolver. record {
      root = q.root_node resolver;
      type_of = q.type_of resolver;
      answer = q.answer resolver;
      changes = g.R.GraphQLMutationValue.changes resolver;
    } in
    answered-over _ c.args.root_node c.root_node-root.result.now (c.root_node-root.ensures ∙ c.in_ok-service.ensures.0.root_node)
    c.in_ok-service.ensures.1 c.args.store.now 10000 c.args.request.now resolving c.args.resolver c.resolver-by.result.now
    (c.resolver-by.ensures ∙ c.in_ok-service.ensures.0.resolver) _ c.args.context.now c.answered_as_stored.result
    c.answered_as_stored.new.context c.answered_as_stored.ensures.alike
