use Rattle.graphql_rules_document.proofs.RuleLaws.{uses_allowed}
use Rattle.graphql_rules_document.proofs.laws.uses_in_allowed_position_are_allowed.Goals as goal

pub returns : goal.returns
returns g c = uses_allowed
