use Rattle.std.proofs.Common.{refl, ◌≡◌, []}
use Rattle.graphql_execution_walk.specs.Evaluations.{evaluation_at}
use Rattle.graphql_execution_walk.specs.Frames.{comes_to, shows}
use Rattle.graphql_execution_walk.proofs.FrameLemmas.{leads-end, leads-now, step-in_place, step-then}
use Rattle.graphql_execution_walk.proofs.stack.drive.Goals as goal

pub turns-init : goal.turns-init
turns-init g c =
    let here = evaluation_at g.S.ScalarValue.of_text g.S.ScalarValue.of_bool g.S.ScalarValue.answer (g.R.GraphQLValue.root_node c.args.resolver.now) (g.R.GraphQLValue.type_of c.args.resolver.now) (g.R.GraphQLValue.answer c.args.resolver.now) c.args.executor.now in
    let old = c.args.report.now in
    rw c.new-waiting.ensures ((tt, c.requires.fine), step-in_place here old.path [] (comes_to here c.args.first) (comes_to here c.args.first) old old refl (leads-now (comes_to here c.args.first old.path) old))

pub returns-in-Done : goal.returns-in-Done
returns-in-Done g c =
    let here = evaluation_at g.S.ScalarValue.of_text g.S.ScalarValue.of_bool g.S.ScalarValue.answer (g.R.GraphQLValue.root_node c.args.resolver.now) (g.R.GraphQLValue.type_of c.args.resolver.now) (g.R.GraphQLValue.answer c.args.resolver.now) c.args.executor.now in
    let old = c.args.report.now in
    let inv = c.turns.invariant.1 in
    let first = comes_to here c.args.first old.path in
    let new = c.turn.new.report in
    let v = c.in-Done.value in
    let none : c.turn.new.waiting ≡ [] = rw c.in-Done.is at c.in_ok-value.ensures.fine in
    let step = rw (c.in-Done.is, none) at (c.in_ok-value.ensures.steps old.path inv.stands) in
    let all = step-then here old.path first c.turns.waiting [] (comes_to here c.turns.now) (λ q. shows v) old c.turns.report new inv step in
    leads-end first v old new all.stands all.leads

pub turns-preserved : goal.turns-preserved
turns-preserved g c =
    let here = evaluation_at g.S.ScalarValue.of_text g.S.ScalarValue.of_bool g.S.ScalarValue.answer (g.R.GraphQLValue.root_node c.args.resolver.now) (g.R.GraphQLValue.type_of c.args.resolver.now) (g.R.GraphQLValue.answer c.args.resolver.now) c.args.executor.now in
    let old = c.args.report.now in
    let inv = c.turns.invariant.1 in
    let first = comes_to here c.args.first old.path in
    let step = rw c.in-Open.is at (c.in_ok-value.ensures.steps old.path inv.stands) in
    let fine = rw c.in-Open.is at c.in_ok-value.ensures.fine in
    (fine, step-then here old.path first c.turns.waiting c.turn.new.waiting (comes_to here c.turns.now) (comes_to here c.in-Open.begun) old c.turns.report c.turn.new.report inv step)
