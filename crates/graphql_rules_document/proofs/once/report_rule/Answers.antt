use Rattle.std.proofs.Common.{◌≡◌, ap, ◌∙◌}
use Rattle.graphql_schema.specs.Declarations.{declarations_of}
use Rattle.graphql_visitors.proofs.ReportLemmas.{reports_added}
use Rattle.graphql_visitors.specs.Subjects.{Subject, subject_of}
use Rattle.graphql_rules_document.specs.Once.{said_of}
use Rattle.graphql_rules_document.proofs.once.report_rule.Goals as goal

pub returns-in-Ok : goal.returns-in-Ok
returns-in-Ok g c =
    let says = g.R.DocumentRule.says in
    let context = c.args.context.now in
    let here : Subject g.row.S.Denot g.row.S-Check.Denot =
    record { schema = declarations_of c.schema.result.now; document = c.document.result.now } in
    let same : here ≡ subject_of context =
    (λ i. record { schema = declarations_of ((c.schema.ensures i).now); document = (c.document.ensures i).now }) in
    let told = said_of says (subject_of context) in
    reports_added c.in-Ok.errors told context c.append_errors.new.self (c.in-Ok.ensures ∙ ap (said_of says) same) c.append_errors.ensures
