use Rattle.graphql_rules_document.proofs.RuleLaws.{distinct_variables}
use Rattle.graphql_rules_document.proofs.laws.unique_variables_have_distinct_names.Goals as goal

pub returns : goal.returns
returns g c = distinct_variables
