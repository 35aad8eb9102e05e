use Rattle.graphql_rules_document.proofs.CycleLaws.{none_reaches_itself}
use Rattle.graphql_rules_document.proofs.laws.fragments_without_cycles_never_reach_themselves.Goals as goal

pub returns : goal.returns
returns c = none_reaches_itself
