use Rattle.graphql_variable_checks.proofs.LawLemmas.{distinct_found}
use Rattle.graphql_variable_checks.proofs.laws.definitions_of_distinct_names_are_found.Goals as goal

pub returns : goal.returns
returns g c = distinct_found
