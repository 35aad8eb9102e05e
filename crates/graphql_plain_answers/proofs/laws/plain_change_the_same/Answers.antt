use Rattle.graphql_plain_answers.proofs.SerialPlain.{plain-change-the-same}
use Rattle.graphql_plain_answers.proofs.laws.plain_change_the_same.Goals as goal

pub returns : goal.returns
returns g c = plain-change-the-same
