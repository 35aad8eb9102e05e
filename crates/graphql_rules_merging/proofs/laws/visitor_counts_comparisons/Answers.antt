use Rattle.graphql_rules_merging.proofs.Visits.{counted_over_document}
use Rattle.graphql_rules_merging.proofs.laws.visitor_counts_comparisons.Goals as goal

pub returns : goal.returns
returns g c = λ subject v w told fresh runs. counted_over_document g.S.PartialEq.eq subject v w told fresh runs
