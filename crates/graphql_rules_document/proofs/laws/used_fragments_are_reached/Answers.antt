use Rattle.graphql_rules_document.proofs.RuleLaws.{all_reached}
use Rattle.graphql_rules_document.proofs.laws.used_fragments_are_reached.Goals as goal

pub returns : goal.returns
returns g c = all_reached
