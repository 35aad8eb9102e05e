use Rattle.graphql_variable_checks.proofs.LawLemmas.{given_or_default}
use Rattle.graphql_variable_checks.proofs.laws.final_values_are_given_or_defaults.Goals as goal

pub returns : goal.returns
returns g c = given_or_default
