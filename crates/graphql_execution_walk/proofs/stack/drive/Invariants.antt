use Rattle.std.proofs.Common.{◌+◌}
use Rattle.graphql_execution_walk.specs.Evaluations.{evaluation_at}
use Rattle.graphql_execution_walk.specs.FrameTurns.{all_waiting, begun_turns}
use Rattle.graphql_execution_walk.specs.Frames.{AllFine, FineBegun, TakesTurn, comes_to}
use Rattle.graphql_execution_walk.proofs.stack.drive.Given as goal

abbrev pub invariant-turns : goal.invariant-turns
invariant-turns g l =
    let here = evaluation_at g.S.ScalarValue.of_text g.S.ScalarValue.of_bool g.S.ScalarValue.answer (g.R.GraphQLValue.root_node l.resolver) (g.R.GraphQLValue.type_of l.resolver) (g.R.GraphQLValue.answer l.resolver) l.executor in
    (AllFine here l.waiting × FineBegun here l.now) × TakesTurn here l.fn.report.path (comes_to here l.fn.first l.fn.report.path) l.fn.report l.waiting (comes_to here l.now) l.report

abbrev pub decreases-turns : goal.decreases-turns
decreases-turns g l =
    let here = evaluation_at g.S.ScalarValue.of_text g.S.ScalarValue.of_bool g.S.ScalarValue.answer (g.R.GraphQLValue.root_node l.resolver) (g.R.GraphQLValue.type_of l.resolver) (g.R.GraphQLValue.answer l.resolver) l.executor in
    all_waiting here l.waiting + begun_turns here l.now
