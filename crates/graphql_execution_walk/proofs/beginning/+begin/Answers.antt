use Rattle.std.proofs.Common.{sym, ◌≡◌, ◌∙◌, false, reverse}
use Rattle.graphql_names.specs.declared.type_modifier.TypeModifier.TheVariants as modifier
use Rattle.graphql_execution_walk.specs.Evaluations.{evaluation_at}
use Rattle.graphql_execution_walk.specs.Parts.{null_here}
use Rattle.graphql_execution_walk.specs.Sets.{sets_in}
use Rattle.graphql_execution_walk.proofs.BeginLemmas.{required-begins}
use Rattle.graphql_execution_walk.proofs.FrameLemmas.{outer-wraps}
use Rattle.graphql_execution_walk.proofs.beginning.+begin.Goals as goal

pub returns-else-is_null : goal.returns-else-is_null
returns-else-is_null g t c =
    let rq = c.args.executor.now.request.now in
    let here = evaluation_at g.S.ScalarValue.of_text g.S.ScalarValue.of_bool g.S.ScalarValue.answer (g.R.GraphQLValue.root_node c.args.resolver.now) (g.R.GraphQLValue.type_of c.args.resolver.now) (g.R.GraphQLValue.answer c.args.resolver.now) c.args.executor.now in
    let spot = c.args.spot.now in
    let some : null_here c.args.answer ≡ false = sym c.is_null.ensures ∙ c.if-is_null.false in
    rw (outer-wraps c.args.wraps.now c.in-NonNull.rest.now modifier.NonNull c.in-NonNull.ensures)
    (required-begins here (sets_in rq spot.selected) spot.name.now spot.location (reverse c.in-NonNull.rest.now) c.args.answer some c.begin.result c.begin.ensures)
