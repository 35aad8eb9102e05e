use Rattle.graphql_rules_document.proofs.CycleLaws.{fragments_end}
use Rattle.graphql_rules_document.proofs.laws.fragments_without_cycles_end.Goals as goal

pub returns : goal.returns
returns c = fragments_end
