use Rattle.graphql_output_values.specs.Equality.{equal}
use Rattle.graphql_output_values.proofs.FieldLaws.{by_fields}
use Rattle.graphql_output_values.proofs.laws.equal_by_fields.Goals as goal

pub returns : goal.returns
returns g c one other = by_fields (equal g.S.PartialEq.eq) one.fields other.fields
