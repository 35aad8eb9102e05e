use Rattle.std.proofs.Common.{◌≡◌, ap, ◌∙◌}
use Rattle.graphql_occurrences.specs.Events.{events}
use Rattle.graphql_rule_errors.specs.Places.{places}
use Rattle.graphql_schema.proofs.MeantScalars.{scalars_of}
use Rattle.graphql_schema.specs.Declarations.{declarations_of}
use Rattle.graphql_visitors.specs.Subjects.{subject_of}
use Rattle.graphql_validation.proofs.StageLemmas.{kept_beside, parts_told_beside}
use Rattle.graphql_validation.proofs.WalkLemmas.{reports_visited}
use Rattle.graphql_validation.specs.FirstStage.{PartsTold}
use Rattle.graphql_validation.proofs.first_stage.visit_parts.Goals as goal

pub returns-clause-reports : goal.returns-clause-reports
returns-clause-reports g c =
    let scalars = scalars_of g.S.ParseScalarValue g.S.ScalarValue g.S.PartialEq g.S.Check.Check in
    let subject = subject_of c.args.context.now in
    let same : c.with-rules.result.second.second.second.second.second.second.second.second.second.first.overlaps.schema ≡ c.args.context.now.schema =
    (λ i. (c.with-rules.ensures.second i).second.second.second.second.second.second.second.second.first.overlaps.schema)
    ∙ (λ i. (c.with-14.ensures.second i).second.second.second.second.second.second.second.first.overlaps.schema)
    ∙ (λ i. (c.with-13.ensures.second i).second.second.second.second.second.second.first.overlaps.schema)
    ∙ (λ i. (c.with-12.ensures.second i).second.second.second.second.second.first.overlaps.schema)
    ∙ (λ i. (c.with-11.ensures.second i).second.second.second.second.first.overlaps.schema)
    ∙ (λ i. (c.with-10.ensures.second i).second.second.second.first.overlaps.schema)
    ∙ (λ i. (c.with-9.ensures.second i).second.second.first.overlaps.schema)
    ∙ (λ i. (c.with-8.ensures.second i).second.first.overlaps.schema)
    ∙ (λ i. (c.with-7.ensures.second i).first.overlaps.schema)
    ∙ (λ i. (c.with-6.ensures.first i).overlaps.schema) ∙ c.factory-spreads.ensures ∙ c.schema.ensures in
    reports_visited _ (PartsTold scalars subject) (events subject.schema subject.document) c.with-rules.result c.visit_and_gather-scopes.new.visitor c.args.context.now
    c.visit_and_gather-scopes.new.context c.visit_and_gather-scopes.ensures.visited c.visit_and_gather-scopes.ensures.around
    (λ ts runs. parts_told_beside subject _ _ _ _ _ _ _ _ _ _ _ _ _ scalars c.with-rules.result c.visit_and_gather-scopes.new.visitor ts (λ i. declarations_of ((same i).now)) runs)

pub returns-clause-gathered : goal.returns-clause-gathered
returns-clause-gathered g c = c.visit_and_gather-scopes.ensures.gathered

pub returns-clause-introspection : goal.returns-clause-introspection
returns-clause-introspection g c =
    let scalars = scalars_of g.S.ParseScalarValue g.S.ScalarValue g.S.PartialEq g.S.Check.Check in
    λ stood.
    let ran = c.visit_and_gather-scopes.ensures.visited.ran stood in
    ap places (c.into_errors-introspection.ensures ∙ (λ i. (c.into_first.ensures i).errors))
    ∙ kept_beside (subject_of c.args.context.now) _ _ _ _ _ _ _ _ _ _ _ _ _ scalars c.args.introspection_disabled c.with-rules.result c.visit_and_gather-scopes.new.visitor ran.told
    (c.with-rules.ensures.first ∙ c.new-introspection.ensures) ran.runs
