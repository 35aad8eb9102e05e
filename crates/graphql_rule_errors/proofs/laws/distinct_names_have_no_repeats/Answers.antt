use Rattle.graphql_rule_errors.proofs.RepeatLemmas.{no_repeats}
use Rattle.graphql_rule_errors.proofs.laws.distinct_names_have_no_repeats.Goals as goal

pub returns : goal.returns
returns c = no_repeats
