use Rattle.graphql_plain_validity.proofs.MergingStays.{fields-stay-merging}
use Rattle.graphql_plain_validity.proofs.merging.fields_stay_merging.Goals as goal

pub returns : goal.returns
returns g c = λ schema. fields-stay-merging _ g.met.S.Eq.laws _ _ schema
