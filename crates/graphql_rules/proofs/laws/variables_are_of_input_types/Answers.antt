use Rattle.graphql_rules.proofs.LawLemmas.{variables_input}
use Rattle.graphql_rules.proofs.laws.variables_are_of_input_types.Goals as goal

pub returns : goal.returns
returns g c = λ subject parts. variables_input subject parts
