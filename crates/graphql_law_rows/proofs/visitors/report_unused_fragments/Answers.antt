use Rattle.std.proofs.Common.{◌≡◌}
use Rattle.graphql_occurrences.specs.Events.{events}
use Rattle.graphql_rules_document.specs.NoUnusedFragments.{no_unused_fragments_faults}
use Rattle.graphql_rules_document.specs.Once.{ScopeRule, once, said_of}
use Rattle.graphql_validation.proofs.ReportedLemmas.{reports_exactly}
use Rattle.graphql_validation.proofs.WalkLemmas.{reports_visited}
use Rattle.graphql_visitors.specs.Subjects.{subject_of}
use Rattle.graphql_law_rows.proofs.visitors.report_unused_fragments.Goals as goal

pub returns : goal.returns
returns g c =
    let subject = subject_of c.args.context.now in
    let unused : ScopeRule g.row.S.Denot g.row.S-Check.Denot = (λ types operations fragments. no_unused_fragments_faults operations fragments) in
    let told = said_of unused subject in
    reports_exactly told c.args.context.now c.visit.new.context
    (reports_visited (once unused) (λ ts. ts ≡ told) (events subject.schema subject.document)
    c.factory-rule.result c.visit.new.visitor c.args.context.now c.visit.new.context
    c.visit.ensures.visited c.visit.ensures.around
    (λ ts runs.
    c.document_rules_tell_of_documents.ensures subject c.factory-rule.result c.visit.new.visitor ts
    c.factory-rule.ensures runs))
