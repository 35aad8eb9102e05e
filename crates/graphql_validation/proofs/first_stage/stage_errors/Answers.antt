use Rattle.std.proofs.Common.{◌≡◌, ℕ, Ok, subst, ◌∙◌, ap}
use Rattle.graphql_rule_errors.specs.Places.{places}
use Rattle.graphql_schema.proofs.MeantScalars.{scalars_of}
use Rattle.graphql_schema.specs.Declarations.{declarations_of}
use Rattle.graphql_visitors.specs.Subjects.{Subject, subject_of}
use Rattle.graphql_validation.proofs.ReportedLemmas.{errors_none, errors_told}
use Rattle.graphql_validation.proofs.ValidLemmas.{first_exactly, first_permuted}
use Rattle.graphql_validation.specs.Apart.{asked_places}
use Rattle.graphql_validation.specs.FirstStage.{FirstStage}
use Rattle.graphql_validation.specs.Valid.{HasNoFault}
use Rattle.graphql_validation.proofs.first_stage.stage_errors.Goals as goal

told : goal.returns-clause-told
told g c =
    let scalars = scalars_of g.S.ParseScalarValue g.S.ScalarValue g.S.PartialEq g.S.Check.Check in
    let context = c.in_ok-context.context in
    let here : Subject g.row.S.Denot g.row.S-Check.Denot = record { schema = declarations_of c.args.schema.now; document = c.args.document.now } in
    let same : subject_of context ≡ here = (λ i. record { schema = declarations_of ((c.in_ok-context.ensures.schema i).now); document = (c.in_ok-context.ensures.document i).now }) in
    subst (λ s. FirstStage scalars s (places c.in_ok-stage.stage)) same
    (errors_told {E = ℕ} (FirstStage scalars (subject_of context)) context c.visit_stage-introspection.new.context (Ok c.in_ok-stage.stage) c.in_ok-context.ensures.errors
    c.visit_stage-introspection.ensures.reports c.in_ok-stage.ensures.ok c.in_ok-stage.ensures.permutation (first_permuted scalars (subject_of context)))

pub returns-clause-told : goal.returns-clause-told
returns-clause-told g c = told g c

pub returns-clause-none : goal.returns-clause-none
returns-clause-none g c =
    let scalars = scalars_of g.S.ParseScalarValue g.S.ScalarValue g.S.PartialEq g.S.Check.Check in
    let here : Subject g.row.S.Denot g.row.S-Check.Denot = record { schema = declarations_of c.args.schema.now; document = c.args.document.now } in
    errors_none {E = ℕ} (FirstStage scalars here) (HasNoFault scalars here) (Ok c.in_ok-stage.stage) (told g c)
    (first_exactly scalars here)

pub returns-clause-introspection : goal.returns-clause-introspection
returns-clause-introspection g c =
    let context = c.in_ok-context.context in
    let here : Subject g.row.S.Denot g.row.S-Check.Denot = record { schema = declarations_of c.args.schema.now; document = c.args.document.now } in
    let same : subject_of context ≡ here = (λ i. record { schema = declarations_of ((c.in_ok-context.ensures.schema i).now); document = (c.in_ok-context.ensures.document i).now }) in
    c.visit_stage-introspection.ensures.introspection c.in_ok-stage.ensures.ok ∙ ap (asked_places c.args.introspection_disabled) same
