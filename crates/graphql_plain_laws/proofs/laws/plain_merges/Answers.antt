use Rattle.graphql_plain_laws.proofs.PlainMembers.{merging-plain}
use Rattle.graphql_plain_laws.proofs.laws.plain_merges.Goals as goal

pub returns : goal.returns
returns g c = λ types drops stand_in. merging-plain types drops stand_in g.S.PartialEq.eq
