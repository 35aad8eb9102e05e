use Rattle.std.proofs.Common.{◌≡◌, subst}
use Rattle.graphql_rule_errors.specs.Places.{places}
use Rattle.graphql_schema.proofs.MeantScalars.{scalars_of}
use Rattle.graphql_schema.specs.Declarations.{declarations_of}
use Rattle.graphql_visitors.specs.Subjects.{Subject, subject_of}
use Rattle.graphql_rules_merging.proofs.Visits.{reported_by}
use Rattle.graphql_validation.specs.AllRules.{AllRules}
use Rattle.graphql_validation.proofs.all_rules.visit_all_rules.Goals as goal

pub returns-in-Ok : goal.returns-in-Ok
returns-in-Ok g c =
    let scalars = scalars_of g.S.ParseScalarValue g.S.ScalarValue g.S.PartialEq g.S.Check.Check in
    let context = c.args.context.now in
    let here : Subject g.row.S.Denot g.row.S-Check.Denot = record { schema = declarations_of c.schema.result.now; document = c.document.result.now } in
    let same : here ≡ subject_of context = (λ i. record { schema = declarations_of ((c.schema.ensures i).now); document = (c.document.ensures i).now }) in
    reported_by (AllRules scalars (subject_of context)) c.in-Ok.errors context c.append_errors.new.self
    (subst (λ s. AllRules scalars s (places c.in-Ok.errors)) same c.in-Ok.ensures.told)
    c.append_errors.ensures
