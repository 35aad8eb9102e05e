use Rattle.graphql_occurrences.specs.Events.{events}
use Rattle.graphql_rules_merging.specs.OverlappingFieldsCanBeMerged.{RuleTold, asks_once}
use Rattle.graphql_validation.proofs.WalkLemmas.{reports_visited}
use Rattle.graphql_visitors.specs.Subjects.{subject_of}
use Rattle.graphql_law_rows.proofs.visitors.report_overlapping_fields.Goals as goal

pub returns : goal.returns
returns g c =
    let subject = subject_of c.args.context.now in
    reports_visited (asks_once g.S.PartialEq.eq) (RuleTold g.S.PartialEq.eq subject) (events subject.schema subject.document)
    c.factory-rule.result c.visit.new.visitor c.args.context.now c.visit.new.context
    c.visit.ensures.visited c.visit.ensures.around
    (λ ts runs.
    c.visitor_tells_of_document.ensures subject c.factory-rule.result c.visit.new.visitor ts
    c.factory-rule.ensures.fresh runs)
