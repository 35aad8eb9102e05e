use Rattle.graphql_values.proofs.SameValueLaws.{same_as_itself}
use Rattle.graphql_merging.proofs.Standing.{agrees-with-itself}
use Rattle.graphql_merging.proofs.laws.fields_agree_with_themselves.Goals as goal

pub returns : goal.returns
returns g c = agrees-with-itself _ _ _ (same_as_itself _ g.met.S.Eq.laws)
