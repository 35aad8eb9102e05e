use Rattle.graphql_output_values.proofs.ObjectLemmas.{there_if_value}
use Rattle.graphql_output_values.proofs.object.Object.contains_field.Goals as goal

pub returns : goal.returns
returns g c = let there = there_if_value c.args.key.now c.args.self.now.fields in cc
