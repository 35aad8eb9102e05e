use Rattle.graphql_plain_answers.proofs.SerialAlike.{alike-change-the-same}
use Rattle.graphql_plain_answers.proofs.laws.alike_change_the_same.Goals as goal

pub returns : goal.returns
returns g c = alike-change-the-same
