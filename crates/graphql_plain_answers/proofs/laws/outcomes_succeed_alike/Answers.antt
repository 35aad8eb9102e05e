use Rattle.graphql_plain_answers.proofs.PlainAnswers.{outcomes-succeed-alike}
use Rattle.graphql_plain_answers.proofs.laws.outcomes_succeed_alike.Goals as goal

pub returns : goal.returns
returns g c = outcomes-succeed-alike
