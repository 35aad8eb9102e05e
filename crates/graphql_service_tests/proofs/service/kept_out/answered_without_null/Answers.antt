use Rattle.graphql_service_tests.proofs.NullsKeptOut.{kept-out}
use Rattle.graphql_service_tests.proofs.service.kept_out.answered_without_null.Goals as goal

pub returns : goal.returns
returns g c =
    kept-out _ _ _ c.answer.result _ _ (c.answer_lines_fit.ensures c.args.service.now _ _ _ c.answer.new.self.context) c.answer.ensures.answers
