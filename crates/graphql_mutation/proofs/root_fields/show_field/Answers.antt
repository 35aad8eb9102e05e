use Rattle.graphql_written_out.specs.Written.{head_of}
use Rattle.graphql_mutation.specs.Mutations.{mutation_of}
use Rattle.graphql_mutation.specs.Serial.{step_of}
use Rattle.graphql_mutation.proofs.RunLemmas.{leaves-either, on_err, told-run}
use Rattle.graphql_mutation.proofs.root_fields.show_field.Goals as goal

pub returns-clause-run : goal.returns-clause-run
returns-clause-run g c =
    let s = g.S.ScalarValue in
    let r = c.args.resolver.now in
    let here = c.args.executor.now in
    let changes = g.R.GraphQLMutationValue.changes r in
    let type_of = g.R.GraphQLValue.type_of r in
    let m = mutation_of s.of_text s.of_bool s.answer here.request.now type_of (g.R.GraphQLValue.answer r) changes in
    let step = step_of m c.args.object.now c.args.context.now (head_of c.args.field.now) in
    let completed = c.complete_field-completed in
    rw (c.shown.ensures, c.is_required.ensures)
    (told-run m here step completed.result c.in_ok-value.value c.args.errors.now completed.new.errors
    c.value_or_told.new.errors c.args.context.now completed.new.context completed.ensures.completes
    completed.ensures.after c.in_ok-value.ensures)

pub returns-in_err-value-clause-begun : goal.returns-in_err-value-clause-begun
returns-in_err-value-clause-begun g c =
    let completed = c.complete_field-completed in
    on_err c.from_residual.result _ (leaves-either c.args.context.now _ _ completed.result completed.ensures.after)
