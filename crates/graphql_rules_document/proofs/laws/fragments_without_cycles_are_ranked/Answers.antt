use Rattle.graphql_rules_document.proofs.CycleLaws.{are_ranked}
use Rattle.graphql_rules_document.proofs.laws.fragments_without_cycles_are_ranked.Goals as goal

pub returns : goal.returns
returns c = are_ranked
