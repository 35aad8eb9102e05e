use Rattle.graphql_values.proofs.SameObjectLaws.{by_unique_names}
use Rattle.graphql_values.proofs.laws.same_objects_have_the_same_fields.Goals as goal

pub returns : goal.returns
returns g c = by_unique_names _
