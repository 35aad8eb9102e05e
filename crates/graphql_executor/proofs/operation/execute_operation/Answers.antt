use Rattle.std.proofs.Common.{[], ◌∷◌, option_map}
use Rattle.std.specs.HashMap.{get_by_text}
use Rattle.graphql_tree.specs.Documents.{variables_in}
use Rattle.graphql_tree.specs.Definitions.{fragments_listed}
use Rattle.graphql_written_out.specs.FinalValues.{final_value}
use Rattle.graphql_written_out.specs.FinalVariables.{value_in}
use Rattle.graphql_written_out.specs.Written.{written}
use Rattle.graphql_execution_walk.specs.declared.asked.Asked.TheVariants as asked
use Rattle.graphql_mutation.specs.Mutations.{mutation_over}
use Rattle.graphql_executor.proofs.Running.{begun-at-once, on_err, values-begun, values-respond}
use Rattle.graphql_executor.proofs.operation.execute_operation.Goals as goal

pub returns-in_err-values-clause-begun : goal.returns-in_err-values-clause-begun
returns-in_err-values-clause-begun g c =
    let s = g.S.ScalarValue in
    let r = g.R.GraphQLValue in
    let resolver = c.args.resolver.now in
    let schema = c.args.schema.now in
    let operation = c.args.operation.now.item in
    let values = final_value (get_by_text c.args.variables.now) (variables_in operation.variable_definitions) in
    let m = mutation_over s.of_text s.of_bool s.answer schema values (r.type_of resolver) (r.answer resolver)
    (g.R.GraphQLMutationValue.changes resolver) in
    let sets = written (fragments_listed c.args.document.now) operation.selection_set ∷ [] in
    let root = option_map (λ name. name.now) c.args.mutation_root in
    on_err c.from_residual.result _
    (begun-at-once m schema.query (asked.Own (r.root_node resolver)) sets root c.args.context.now)

pub returns-in_err-response-clause-begun : goal.returns-in_err-response-clause-begun
returns-in_err-response-clause-begun g c =
    let s = g.S.ScalarValue in
    let r = g.R.GraphQLValue in
    let resolver = c.args.resolver.now in
    let operation = c.args.operation.now.item in
    let values = final_value (get_by_text c.args.variables.now) (variables_in operation.variable_definitions) in
    let sets = written (fragments_listed c.args.document.now) operation.selection_set ∷ [] in
    let root = option_map (λ name. name.now) c.args.mutation_root in
    on_err c.from_residual-in_err-response.result _
    (values-begun s.of_text s.of_bool s.answer c.args.schema.now (r.type_of resolver) (r.answer resolver)
    (g.R.GraphQLMutationValue.changes resolver) (asked.Own (r.root_node resolver)) sets root c.args.context.now c.answer_over.new.context
    (value_in c.in_ok-values.values) values c.in_ok-values.ensures c.in_err-response.ensures.begun)

pub returns-clause-responds : goal.returns-clause-responds
returns-clause-responds g c =
    let s = g.S.ScalarValue in
    let r = g.R.GraphQLValue in
    let resolver = c.args.resolver.now in
    let operation = c.args.operation.now.item in
    let values = final_value (get_by_text c.args.variables.now) (variables_in operation.variable_definitions) in
    let sets = written (fragments_listed c.args.document.now) operation.selection_set ∷ [] in
    let root = option_map (λ name. name.now) c.args.mutation_root in
    values-respond s.of_text s.of_bool s.answer c.args.schema.now (r.type_of resolver) (r.answer resolver)
    (g.R.GraphQLMutationValue.changes resolver) (asked.Own (r.root_node resolver)) sets root c.args.context.now c.answer_over.new.context
    (value_in c.in_ok-values.values) values c.in_ok-values.ensures _ _ _ c.in_ok-response.ensures.responds
