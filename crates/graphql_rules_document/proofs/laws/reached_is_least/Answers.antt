use Rattle.graphql_rules_document.proofs.LeastLemmas.{reached_is}
use Rattle.graphql_rules_document.proofs.laws.reached_is_least.Goals as goal

pub returns : goal.returns
returns c = reached_is
