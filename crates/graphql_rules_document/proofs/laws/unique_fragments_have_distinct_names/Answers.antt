use Rattle.graphql_rules_document.proofs.RuleLaws.{distinct_fragments}
use Rattle.graphql_rules_document.proofs.laws.unique_fragments_have_distinct_names.Goals as goal

pub returns : goal.returns
returns c = distinct_fragments
