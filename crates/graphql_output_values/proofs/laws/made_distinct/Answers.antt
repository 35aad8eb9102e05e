use Rattle.graphql_output_values.proofs.FieldLaws.{made_distinct}
use Rattle.graphql_output_values.proofs.laws.made_distinct.Goals as goal

pub returns : goal.returns
returns g c = made_distinct
