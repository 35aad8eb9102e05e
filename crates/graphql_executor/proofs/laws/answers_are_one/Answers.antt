use Rattle.graphql_executor.proofs.OneAnswer.{one-answer}
use Rattle.graphql_executor.proofs.laws.answers_are_one.Goals as goal

pub returns : goal.returns
returns g c = λ a r cmp before one_after other_after. one-answer _ a r cmp before one_after other_after
