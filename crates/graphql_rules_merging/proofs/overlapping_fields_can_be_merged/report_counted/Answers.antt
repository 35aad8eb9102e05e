use Rattle.std.proofs.Common.{◌≡◌, subst}
use Rattle.graphql_rule_errors.specs.Places.{places}
use Rattle.graphql_schema.specs.Declarations.{declarations_of}
use Rattle.graphql_visitors.specs.Subjects.{Subject, subject_of}
use Rattle.graphql_rules_merging.proofs.Visits.{reported_by}
use Rattle.graphql_rules_merging.specs.OverlappingFieldsCanBeMerged.{IsCounted, RuleTold}
use Rattle.graphql_rules_merging.proofs.overlapping_fields_can_be_merged.report_counted.Goals as goal

pub returns-in-Ok : goal.returns-in-Ok
returns-in-Ok g c =
    let context = c.args.context.now in
    let here : Subject g.row.S.Denot g.row.S-Check.Denot = record { schema = declarations_of c.schema.result.now; document = c.document.result.now } in
    let same : here ≡ subject_of context = (λ i. record { schema = declarations_of ((c.schema.ensures i).now); document = (c.document.ensures i).now }) in
    let told : RuleTold g.S.PartialEq.eq here (places c.in-Ok.errors) = (λ settled. let h = c.in-Ok.ensures.merging settled in record { sound = h.0; direct = h.1; complete = h.2 }) in
    let counted : IsCounted here c.args.comparisons.now c.overlapping_fields_counted.new.comparisons = c.in-Ok.ensures.counted in
    reported_by (λ told. RuleTold g.S.PartialEq.eq (subject_of context) told × IsCounted (subject_of context) c.args.comparisons.now c.overlapping_fields_counted.new.comparisons)
    c.in-Ok.errors context c.append_errors.new.self
    (subst (λ s. RuleTold g.S.PartialEq.eq s (places c.in-Ok.errors) × IsCounted s c.args.comparisons.now c.overlapping_fields_counted.new.comparisons) same (told, counted))
    c.append_errors.ensures
