use Rattle.graphql_output_values.proofs.DistinctKeyLaws.{by_forms}
use Rattle.graphql_output_values.proofs.laws.distinct_by_forms.Goals as goal

pub returns : goal.returns
returns g c = by_forms
