use Rattle.graphql_rules_merging.proofs.Visits.{told_over_document}
use Rattle.graphql_rules_merging.proofs.laws.visitor_tells_of_document.Goals as goal

pub returns : goal.returns
returns g c = λ subject v w told fresh runs. told_over_document g.S.PartialEq.eq subject v w told fresh runs
