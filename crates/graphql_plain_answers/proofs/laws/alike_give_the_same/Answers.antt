use Rattle.graphql_plain_answers.proofs.AlikeRuns.{alike-give-the-same}
use Rattle.graphql_plain_answers.proofs.laws.alike_give_the_same.Goals as goal

pub returns : goal.returns
returns g c = alike-give-the-same
