use Rattle.std.proofs.Common.{[], ◌∷◌, sym, subst}
use Rattle.graphql_tree.specs.Definitions.{fragments_listed}
use Rattle.graphql_tree.specs.Documents.{variables_in}
use Rattle.graphql_written_out.specs.FinalValues.{final_value}
use Rattle.graphql_written_out.specs.Written.{written}
use Rattle.graphql_output_values.specs.DistinctKeys.{HasDistinctKeysThroughout}
use Rattle.graphql_execution_walk.specs.declared.asked.Asked.TheVariants as asked
use Rattle.graphql_mutation.specs.Mutations.{mutation_over}
use Rattle.graphql_executor.specs.Executed.{run_at}
use Rattle.graphql_service.proofs.DistinctAnswers.{AlwaysTells, data-distinct, run-distinct}
use Rattle.graphql_service.proofs.laws.answered_data_have_distinct_keys.Goals as goal

pub returns : goal.returns
returns g c = λ a cmp old new answered errors is.
    let s = g.S.ScalarValue in
    let r = g.R.GraphQLValue in
    let resolver = c.args.resolver.now in
    let changes = g.R.GraphQLMutationValue.changes resolver in
    let tells : AlwaysTells (r.answer resolver) changes = record {
      fields = λ context. g.met.R.GraphQLValue.tells_distinct_keys resolver context;
      roots = λ context. g.met.R.GraphQLMutationValue.root_tells_distinct_keys resolver context;
    } in
    let yields = is.yields in
    let operation = is.operation.item in
    let values = final_value a.given (variables_in operation.variable_definitions) in
    let sets = written (fragments_listed is.document) operation.selection_set ∷ [] in
    let query = a.schema.query in
    let m =
    mutation_over s.of_text s.of_bool s.answer a.schema values (r.type_of resolver) (r.answer resolver) changes in
    let root = asked.Own (r.root_node resolver) in
    let run = run_at m query root sets yields.root old in
    let distinct =
    run-distinct s.of_text s.of_bool s.answer a.schema values (r.type_of resolver) (r.answer resolver) changes tells
    c.data_have_distinct_keys.ensures c.failures_tell_distinct_keys.ensures c.runs_have_distinct_keys.ensures query root
    sets yields.root old in
    subst HasDistinctKeysThroughout (sym yields.responds.response.is) (data-distinct run distinct)
