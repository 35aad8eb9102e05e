use Rattle.std.proofs.Common.{ap, sym, subst}
use Rattle.graphql_collected.specs.Requests.{fragments_in}
use Rattle.graphql_written_out.specs.Written.{Settled}
use Rattle.graphql_executor.proofs.Running.{mutation-begun, mutation-responds, on_err}
use Rattle.graphql_executor.proofs.operation.answer_mutation.Goals as goal

pub answer_serially-requires : goal.answer_serially-requires
answer_serially-requires g c = subst (λ r. Settled (fragments_in r)) (sym c.at_root-root.ensures.request) c.requires

pub returns-in_err-value-clause-begun : goal.returns-in_err-value-clause-begun
returns-in_err-value-clause-begun g c =
    let s = g.S.ScalarValue in
    let r = g.R.GraphQLValue in
    let resolver = c.args.resolver.now in
    let root = c.at_root-root.result in
    on_err c.from_residual.result _
    (mutation-begun s.of_text s.of_bool s.answer (r.type_of resolver) (r.answer resolver) (g.R.GraphQLMutationValue.changes resolver)
    root.request.now c.args.request.now root.current_type.name.now c.args.object.now root.selected c.args.set.now
    c.at_root-root.ensures.request (ap (λ t. t.name) c.at_root-root.ensures.current_type) c.at_root-root.ensures.selected
    c.args.context.now c.answer_serially.new.context c.in_err-value.ensures.begun)

pub returns-clause-run : goal.returns-clause-run
returns-clause-run g c =
    let s = g.S.ScalarValue in
    let r = g.R.GraphQLValue in
    let resolver = c.args.resolver.now in
    let root = c.at_root-root.result in
    mutation-responds s.of_text s.of_bool s.answer (r.type_of resolver) (r.answer resolver) (g.R.GraphQLMutationValue.changes resolver)
    root.request.now c.args.request.now root.current_type.name.now c.args.object.now root.selected c.args.set.now
    c.at_root-root.ensures.request (ap (λ t. t.name) c.at_root-root.ensures.current_type) c.at_root-root.ensures.selected
    _ c.args.context.now c.answer_serially.new.context c.in_ok-value.value c.new-errors.result c.answer_serially.new.errors
    c.in_order.result c.or_null.result c.new-errors.ensures c.in_ok-value.ensures.run c.or_null.ensures
    c.in_order.ensures.permutation c.in_order.ensures.sorted
