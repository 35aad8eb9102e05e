use Rattle.std.proofs.Common.{[], ◌∷◌, sym, subst}
use Rattle.graphql_tree.specs.Documents.{variables_in}
use Rattle.graphql_written_out.specs.FinalValues.{final_value}
use Rattle.graphql_output_values.specs.DistinctKeys.{HasDistinctKeysThroughout}
use Rattle.graphql_answers.specs.Responses.{refusal_response, response_of}
use Rattle.graphql_tree.specs.Definitions.{fragments_listed}
use Rattle.graphql_written_out.specs.Written.{written}
use Rattle.graphql_execution_walk.specs.declared.asked.Asked.TheVariants as asked
use Rattle.graphql_mutation.specs.Mutations.{mutation_over}
use Rattle.graphql_executor.specs.Requests.{Scalars}
use Rattle.graphql_executor.specs.Executed.{run_at}
use Rattle.graphql_service.specs.Answers.{given, no_request, not_executed, executed_to}
use Rattle.graphql_service.specs.Texts.{told_of_line, told_of_request}
use Rattle.graphql_service.proofs.DistinctAnswers.{AlwaysTells, data-distinct, errors-distinct, run-distinct}
use Rattle.graphql_service.proofs.laws.answer_lines_have_distinct_keys.Goals as goal

pub returns : goal.returns
returns g c = λ service line answered old new is.
    let s = g.S.ScalarValue in
    let r = g.R.GraphQLValue in
    let resolver = service.resolver in
    let changes = g.R.GraphQLMutationValue.changes resolver in
    let tells : AlwaysTells (r.answer resolver) changes = record {
      fields = λ context. g.met.R.GraphQLValue.tells_distinct_keys resolver context;
      roots = λ context. g.met.R.GraphQLMutationValue.root_tells_distinct_keys resolver context;
    } in
    let limit = service.line_limit in
    let meaning : Scalars g.row.S.Denot g.row.S-Check.Denot = record {
      reads = g.S.ParseScalarValue.reads;
      of_bool = s.of_bool;
      of_int = s.of_int;
      of_text = s.of_text;
      eq = g.S.PartialEq.eq;
      answer = s.answer;
      accepts = g.S.Check.Check.accepts;
    } in
    elim is [
      | no_request refusal due e kept ↦ record { found = refusal_response (told_of_line limit refusal); is = e; distinct = c.answers_have_distinct_keys.ensures.1 (told_of_line limit refusal) }
      | not_executed refusal due e kept ↦ record { found = refusal_response (told_of_request refusal); is = e; distinct = c.answers_have_distinct_keys.ensures.1 (told_of_request refusal) }
      | executed_to found errors ex e ↦
          let answers = ex.answers in
          let yields = answers.yields in
          let operation = answers.operation.item in
          let values = final_value (given meaning ex.request) (variables_in operation.variable_definitions) in
          let sets = written (fragments_listed answers.document) operation.selection_set ∷ [] in
          let schema = service.root_node.schema in
          let query = schema.query in
          let m =
          mutation_over s.of_text s.of_bool s.answer schema values (r.type_of resolver) (r.answer resolver) changes in
          let root = asked.Own (r.root_node resolver) in
          let run = run_at m query root sets yields.root old in
          let distinct =
          run-distinct s.of_text s.of_bool s.answer schema values (r.type_of resolver) (r.answer resolver) changes tells
          c.data_have_distinct_keys.ensures c.failures_tell_distinct_keys.ensures c.runs_have_distinct_keys.ensures
          query root sets yields.root old in
          record {
            found = response_of s.answer found errors;
            is = e;
            distinct = c.answers_have_distinct_keys.ensures.0 found errors
                (subst HasDistinctKeysThroughout (sym yields.responds.response.is) (data-distinct run distinct))
                (errors-distinct run distinct errors yields.responds.response.all);
          }
    ]
