use Rattle.std.proofs.Common.{◌≡◌, ◌∙◌}
use Rattle.graphql_occurrences.specs.Events.{events}
use Rattle.graphql_rules.specs.PossibleFragmentSpreads.{possible_fragment_spreads_faults}
use Rattle.graphql_rules.specs.PossibleVisitor.{by_names}
use Rattle.graphql_schema.specs.Declarations.{declarations_of}
use Rattle.graphql_validation.proofs.ReportedLemmas.{reports_exactly}
use Rattle.graphql_validation.proofs.WalkLemmas.{reports_visited}
use Rattle.graphql_validation.specs.FirstStage.{places_of}
use Rattle.graphql_visitors.specs.Subjects.{subject_of}
use Rattle.graphql_law_rows.proofs.visitors.report_impossible_spreads.Goals as goal

pub returns : goal.returns
returns g c =
    let subject = subject_of c.args.context.now in
    let told = places_of subject possible_fragment_spreads_faults in
    let same : c.factory-rule.result.overlaps.schema ≡ c.args.context.now.schema = c.factory-rule.ensures ∙ c.schema.ensures in
    reports_exactly told c.args.context.now c.visit.new.context
    (reports_visited by_names (λ ts. ts ≡ told) (events subject.schema subject.document)
    c.factory-rule.result c.visit.new.visitor c.args.context.now c.visit.new.context
    c.visit.ensures.visited c.visit.ensures.around
    (λ ts runs.
    c.possible_spreads_tell_of_occurrences.ensures subject c.factory-rule.result c.visit.new.visitor ts
    (λ i. declarations_of ((same i).now)) runs))
