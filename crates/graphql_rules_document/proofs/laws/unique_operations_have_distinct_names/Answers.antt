use Rattle.graphql_rules_document.proofs.RuleLaws.{distinct_operations}
use Rattle.graphql_rules_document.proofs.laws.unique_operations_have_distinct_names.Goals as goal

pub returns : goal.returns
returns g c = distinct_operations
