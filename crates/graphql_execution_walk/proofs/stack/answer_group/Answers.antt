use Rattle.std.proofs.Common.{subst, ◌++◌, ◌∷◌, []}
use Rattle.graphql_collect.specs.Grouped.{all_found}
use Rattle.graphql_semantics.specs.Evaluation.{evaluate, group}
use Rattle.graphql_execution_walk.specs.Evaluations.{evaluation_at}
use Rattle.graphql_execution_walk.specs.Frames.{comes_to}
use Rattle.graphql_execution_walk.specs.GivesOutcome.{GivesOutcome}
use Rattle.graphql_execution_walk.proofs.FrameLemmas.{answer-gives}
use Rattle.graphql_execution_walk.proofs.stack.answer_group.Goals as goal

pub returns : goal.returns
returns g c =
    let here = evaluation_at g.S.ScalarValue.of_text g.S.ScalarValue.of_bool g.S.ScalarValue.answer (g.R.GraphQLValue.root_node c.args.resolver.now) (g.R.GraphQLValue.type_of c.args.resolver.now) (g.R.GraphQLValue.answer c.args.resolver.now) c.args.executor.now in
    let old = c.args.report.now in
    let key = c.args.these.now.0 in
    let fields = all_found here.fragments c.args.these.now.1 in
    let started = c.in_ok-started.started in
    let mid = c.start.new.report in
    let new = c.leave.new.self in
    let o = group here.engine (evaluate here.engine) old.path c.args.object.now c.args.node.now key fields in
    let q = comes_to here started.begun (old.path ++ key ∷ []) in
    let gives : GivesOutcome q mid c.in_ok-value.value c.drive.new.report = subst (λ p. GivesOutcome (comes_to here started.begun p) mid c.in_ok-value.value c.drive.new.report) c.in_ok-started.ensures.path c.in_ok-value.ensures in
    rw c.shown.ensures
    (answer-gives key started.is_needed o q old mid c.drive.new.report new c.in_ok-value.value c.in_ok-started.ensures.leads gives c.in_ok-started.ensures.path c.leave.ensures.path c.leave.ensures.errors)
