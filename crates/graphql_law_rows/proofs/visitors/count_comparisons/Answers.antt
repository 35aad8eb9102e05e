use Rattle.std.proofs.Common.{subst, sym}
use Rattle.graphql_rules_merging.specs.OverlappingFieldsCanBeMerged.{IsCounted}
use Rattle.graphql_visitors.specs.Subjects.{subject_of}
use Rattle.graphql_law_rows.proofs.visitors.count_comparisons.Goals as goal

pub returns : goal.returns
returns g c = λ safe.
    let subject = subject_of c.args.context.now in
    let ran = c.visit.ensures.visited.ran safe in
    let counted = c.visitor_counts_comparisons.ensures subject c.factory-rule.result c.visit.new.visitor ran.told c.factory-rule.ensures.fresh ran.runs in
    subst (IsCounted subject 0) (sym c.comparisons.ensures)
    (subst (λ m. IsCounted subject m c.visit.new.visitor.comparisons) c.factory-rule.ensures.none counted)
