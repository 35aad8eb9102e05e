use Rattle.graphql_executor.proofs.FittingAnswers.{answer-fits}
use Rattle.graphql_executor.proofs.laws.answers_fit.Goals as goal

pub returns : goal.returns
returns g c = λ a r cmp old new answered errors h.
    answer-fits c.data_fit.ensures c.failures_are_exact.ensures c.no_data_fails.ensures c.runs_fit.ensures
    c.run_failures_are_exact.ensures c.runs_without_data_fail.ensures _ a r cmp old new answered errors h
