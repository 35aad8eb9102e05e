use Rattle.std.proofs.Common.{subst, sym}
use Rattle.graphql_collected.specs.Requests.{fragments_in}
use Rattle.graphql_written_out.specs.Written.{Settled, head_of}
use Rattle.graphql_mutation.specs.Mutations.{mutation_of}
use Rattle.graphql_mutation.specs.Serial.{step_of}
use Rattle.graphql_mutation.proofs.RunLemmas.{completes-over, leaves-or}
use Rattle.graphql_mutation.proofs.root_fields.complete_field.Goals as goal

pub resolve_asked-requires : goal.resolve_asked-requires
resolve_asked-requires g c = subst (λ rq. Settled (fragments_in rq)) (sym c.replaced_context-over.ensures.request) c.requires

pub returns-clause-completes : goal.returns-clause-completes
returns-clause-completes g c =
    let s = g.S.ScalarValue in
    let r = c.args.resolver.now in
    let here = c.args.executor.now in
    let type_of = g.R.GraphQLValue.type_of r in
    let answer = g.R.GraphQLValue.answer r in
    let m = mutation_of s.of_text s.of_bool s.answer here.request.now type_of answer (g.R.GraphQLMutationValue.changes r) in
    let step = step_of m c.args.object.now c.args.context.now (head_of c.args.field.now) in
    let over = c.replaced_context-over in
    let asked = c.in_ok-answer in
    completes-over s.of_text s.of_bool s.answer type_of answer here over.result over.ensures.request over.ensures.path
    over.ensures.current_type over.ensures.selected c.ask_root.new.context step.after step.answer asked.answer
    c.args.errors.now c.resolve_asked.new.errors c.resolve_asked.result over.ensures.context asked.ensures.after
    asked.ensures.answer c.resolve_asked.ensures

pub returns-clause-after : goal.returns-clause-after
returns-clause-after g c = leaves-or _ _ _ c.resolve_asked.result c.in_ok-answer.ensures.after
