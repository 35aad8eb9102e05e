use Rattle.graphql_answers.proofs.Distinct.{of_plain_answer}
use Rattle.graphql_answers.proofs.laws.plain_answers_have_distinct_keys.Goals as goal

pub returns : goal.returns
returns c = of_plain_answer
