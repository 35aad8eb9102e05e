use Rattle.graphql_answers.proofs.Distinct.{of_refusal, of_response}
use Rattle.graphql_answers.proofs.laws.answers_have_distinct_keys.Goals as goal

pub returns : goal.returns
returns g c = (of_response g.S.ScalarValue.answer, of_refusal)
