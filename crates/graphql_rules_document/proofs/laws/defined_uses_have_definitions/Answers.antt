use Rattle.graphql_rules_document.proofs.RuleLaws.{uses_defined}
use Rattle.graphql_rules_document.proofs.laws.defined_uses_have_definitions.Goals as goal

pub returns : goal.returns
returns g c = uses_defined
