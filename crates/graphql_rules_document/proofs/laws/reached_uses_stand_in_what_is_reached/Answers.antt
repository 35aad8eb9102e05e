use Rattle.graphql_rules_document.proofs.RuleLaws.{uses_reached}
use Rattle.graphql_rules_document.proofs.laws.reached_uses_stand_in_what_is_reached.Goals as goal

pub returns : goal.returns
returns g c = uses_reached
