use Rattle.graphql_rules_document.proofs.RuleLaws.{anonymous_alone}
use Rattle.graphql_rules_document.proofs.laws.lone_anonymous_operation_stands_alone.Goals as goal

pub returns : goal.returns
returns g c = anonymous_alone
