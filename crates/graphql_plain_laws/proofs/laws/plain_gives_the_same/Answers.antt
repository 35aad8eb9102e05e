use Rattle.graphql_plain_laws.proofs.PlainRuns.{evaluate-plain}
use Rattle.graphql_plain_laws.proofs.laws.plain_gives_the_same.Goals as goal

pub returns : goal.returns
returns g c = evaluate-plain
