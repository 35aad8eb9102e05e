use Rattle.std.proofs.Common.{◌≡◌}
use Rattle.graphql_schema.proofs.MeantScalars.{scalars_of}
use Rattle.graphql_schema.specs.Declarations.{declarations_of}
use Rattle.graphql_visitors.specs.Subjects.{Subject}
use Rattle.graphql_validation.proofs.AllRulesLemmas.{root_exactly, told_beside}
use Rattle.graphql_validation.proofs.ReportedLemmas.{errors_none}
use Rattle.graphql_validation.specs.AllRules.{IsValidAt, RequestTold}
use Rattle.graphql_validation.proofs.all_rules.request_errors.Goals as goal

told : goal.returns-clause-told
told g c =
    let scalars = scalars_of g.S.ParseScalarValue g.S.ScalarValue g.S.PartialEq g.S.Check.Check in
    let here : Subject g.row.S.Denot g.row.S-Check.Denot = record { schema = declarations_of c.args.schema.now; document = c.args.document.now } in
    told_beside scalars here c.args.introspection_disabled c.in_ok-rules.rules c.in_ok-found.found.introspection c.in_order.result
    c.in_ok-rules.ensures.told c.in_ok-found.ensures.introspection c.in_order.ensures.permutation

pub returns-clause-told : goal.returns-clause-told
returns-clause-told g c = told g c

pub returns-clause-none : goal.returns-clause-none
returns-clause-none g c =
    let scalars = scalars_of g.S.ParseScalarValue g.S.ScalarValue g.S.PartialEq g.S.Check.Check in
    let here : Subject g.row.S.Denot g.row.S-Check.Denot = record { schema = declarations_of c.args.schema.now; document = c.args.document.now } in
    let is_disabled = c.args.introspection_disabled in
    errors_none (RequestTold scalars here is_disabled) (IsValidAt scalars here is_disabled) c.in_order.result (told g c)
    (root_exactly scalars here is_disabled)
