use Rattle.std.proofs.Common.{[], ◌∷◌, option_map, sym, ap, subst}
use Rattle.graphql_tree.specs.Definitions.{fragments_listed}
use Rattle.graphql_written_out.specs.FinalVariables.{value_in}
use Rattle.graphql_written_out.specs.Written.{Settled, written}
use Rattle.graphql_execution_walk.specs.declared.asked.Asked.TheVariants as asked
use Rattle.graphql_mutation.specs.Mutations.{mutation_over}
use Rattle.graphql_executor.proofs.Running.{begun-at-once, on_err, over-document}
use Rattle.graphql_executor.proofs.operation.answer_over.Goals as goal

pub answer_operation-requires : goal.answer_operation-requires
answer_operation-requires g c = subst (λ d. Settled (fragments_listed d)) (sym (ap (λ b. b.now) c.in_ok-fragments.ensures)) c.requires

pub returns-in_err-fragments-clause-begun : goal.returns-in_err-fragments-clause-begun
returns-in_err-fragments-clause-begun g c =
    let s = g.S.ScalarValue in
    let r = g.R.GraphQLValue in
    let resolver = c.args.resolver.now in
    let schema = c.args.schema.now in
    let m = mutation_over s.of_text s.of_bool s.answer schema (value_in c.args.variables) (r.type_of resolver)
    (r.answer resolver) (g.R.GraphQLMutationValue.changes resolver) in
    let sets = written (fragments_listed c.args.document.now) c.args.operation.now.item.selection_set ∷ [] in
    let root = option_map (λ name. name.now) c.args.mutation_root in
    on_err c.from_residual.result _
    (begun-at-once m schema.query (asked.Own (r.root_node resolver)) sets root c.args.context.now)

pub returns-clause-responds : goal.returns-clause-responds
returns-clause-responds g c =
    let s = g.S.ScalarValue in
    let r = g.R.GraphQLValue in
    let resolver = c.args.resolver.now in
    let schema = c.args.schema.now in
    let m = mutation_over s.of_text s.of_bool s.answer schema (value_in c.args.variables) (r.type_of resolver)
    (r.answer resolver) (g.R.GraphQLMutationValue.changes resolver) in
    let root = option_map (λ name. name.now) c.args.mutation_root in
    over-document _ m schema.query (asked.Own (r.root_node resolver)) root c.args.context.now _ _ _
    c.in_ok-fragments.fragments.document.now c.args.document.now c.as_slice-set.result.now
    c.args.operation.now.item.selection_set (ap (λ b. b.now) c.in_ok-fragments.ensures) c.as_slice-set.ensures c.in_ok-response.ensures.responds
