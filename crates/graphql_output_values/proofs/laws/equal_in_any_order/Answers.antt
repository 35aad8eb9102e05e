use Rattle.graphql_output_values.specs.Equality.{equal}
use Rattle.graphql_output_values.specs.EqualValues.{equal_refl}
use Rattle.graphql_output_values.proofs.FieldLaws.{in_any_order}
use Rattle.graphql_output_values.proofs.laws.equal_in_any_order.Goals as goal

pub returns : goal.returns
returns g c one other = in_any_order (equal g.S.PartialEq.eq) one.fields other.fields (equal_refl g.S.PartialEq.eq g.met.S.Eq.laws.refl)
