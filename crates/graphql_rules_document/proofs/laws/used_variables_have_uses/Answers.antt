use Rattle.graphql_rules_document.proofs.RuleLaws.{variables_used}
use Rattle.graphql_rules_document.proofs.laws.used_variables_have_uses.Goals as goal

pub returns : goal.returns
returns g c = variables_used
