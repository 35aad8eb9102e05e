use Rattle.graphql_joined_data.proofs.Differing.{differing-have-no-join}
use Rattle.graphql_joined_data.proofs.laws.differing_have_no_join.Goals as goal

pub returns : goal.returns
returns g c = differing-have-no-join g.S.PartialEq.eq g.met.S.Eq.laws.refl
