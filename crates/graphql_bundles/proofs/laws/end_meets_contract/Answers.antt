use Rattle.graphql_values.proofs.SameValueLaws.{by_a_third}
use Rattle.graphql_bundles.proofs.EndLaw.{end-meets-contract}
use Rattle.graphql_bundles.proofs.laws.end_meets_contract.Goals as goal

pub returns : goal.returns
returns g c = end-meets-contract _ _ g.S.PartialEq.eq (by_a_third _ g.met.S.Eq.laws)
