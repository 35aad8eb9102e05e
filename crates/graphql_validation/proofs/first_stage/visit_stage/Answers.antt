use Rattle.graphql_schema.proofs.MeantScalars.{scalars_of}
use Rattle.graphql_rules_document.specs.Lent.{scopes_told}
use Rattle.graphql_validation.proofs.ReportedLemmas.{stage_reported}
use Rattle.graphql_validation.proofs.first_stage.visit_stage.Goals as goal

pub returns-clause-reports : goal.returns-clause-reports
returns-clause-reports g c =
    let scalars = scalars_of g.S.ParseScalarValue g.S.ScalarValue g.S.PartialEq g.S.Check.Check in
    stage_reported scalars c.args.context.now c.visit_parts-walked.new.context c.report_scopes.new.context (scopes_told c.visit_parts-walked.result.scopes)
    c.visit_parts-walked.ensures.reports c.visit_parts-walked.ensures.gathered c.report_scopes.ensures

pub returns-clause-introspection : goal.returns-clause-introspection
returns-clause-introspection g c = λ stood. c.visit_parts-walked.ensures.introspection (c.report_scopes.ensures.reported stood).memory
