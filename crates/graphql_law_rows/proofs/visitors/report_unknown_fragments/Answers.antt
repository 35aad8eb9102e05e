use Rattle.std.proofs.Common.{◌≡◌}
use Rattle.graphql_occurrences.specs.Events.{events}
use Rattle.graphql_rules.specs.KnownFragmentNames.{known_fragment_names_faults}
use Rattle.graphql_validation.proofs.ReportedLemmas.{reports_exactly}
use Rattle.graphql_validation.proofs.WalkLemmas.{reports_visited}
use Rattle.graphql_validation.specs.FirstStage.{places_of}
use Rattle.graphql_visitors.specs.Rules.{local}
use Rattle.graphql_visitors.specs.Subjects.{subject_of}
use Rattle.graphql_law_rows.proofs.visitors.report_unknown_fragments.Goals as goal

pub returns : goal.returns
returns g c =
    let subject = subject_of c.args.context.now in
    let told = places_of subject known_fragment_names_faults in
    reports_exactly told c.args.context.now c.visit.new.context
    (reports_visited (local known_fragment_names_faults) (λ ts. ts ≡ told) (events subject.schema subject.document)
    c.factory-rule.result c.visit.new.visitor c.args.context.now c.visit.new.context
    c.visit.ensures.visited c.visit.ensures.around
    (c.local_rules_tell_of_occurrences.ensures subject c.factory-rule.result c.visit.new.visitor))
