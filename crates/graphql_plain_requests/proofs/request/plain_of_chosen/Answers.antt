use Rattle.std.proofs.Common.{◌≡◌, ◌≤◌, ◌<◌, Option, subst}
use Rattle.std.specs.String.{string_bytes}
use Rattle.graphql_tree.specs.Definitions.{fragments_listed}
use Rattle.graphql_plain_tree.specs.Plain.{size}
use Rattle.graphql_plain_tree.specs.PlainOperations.{PlainOperation, plain_operation, variables_used}
use Rattle.graphql_plain_text.specs.PlainTexts.{plain_text}
use Rattle.graphql_plain_print.specs.NameSets.{AreSame}
use Rattle.graphql_names.specs.Names.{Bytes}
use Rattle.graphql_values.specs.declared.input_value.InputValue.{InputValue}
use Rattle.graphql_plain_requests.proofs.Refused.{not-printed}
use Rattle.graphql_plain_requests.proofs.request.plain_of_chosen.Goals as goal

pub returns-in_err-printed-clause-large : goal.returns-in_err-printed-clause-large
returns-in_err-printed-clause-large g c =
    let plain_by : (Bytes → Option (InputValue g.row.S.Denot)) → PlainOperation g.row.S.Denot = λ v. plain_operation g.S.ScalarValue.answer g.S.ScalarValue.of_bool v (fragments_listed c.args.document.now) c.args.operation.now in
    not-printed Unit c.from_residual-in_err-printed.result c.in_err-printed.field-0.0 _ _ c.from_residual-in_err-printed.ensures.1
    c.in_err-printed.ensures.large (λ larger. subst (λ v. c.args.limit < size (plain_by v).set) c.in_ok-values.ensures larger)

pub returns-clause-plain : goal.returns-clause-plain
returns-clause-plain g c =
    let plain_by : (Bytes → Option (InputValue g.row.S.Denot)) → PlainOperation g.row.S.Denot = λ v. plain_operation g.S.ScalarValue.answer g.S.ScalarValue.of_bool v (fragments_listed c.args.document.now) c.args.operation.now in (
      subst (λ v. string_bytes c.in_ok-printed.printed.text ≡ plain_text c.args.records.now.tokens (plain_by v)) c.in_ok-values.ensures c.in_ok-printed.ensures.text,
      subst (λ v. size (plain_by v).set ≤ c.args.limit) c.in_ok-values.ensures c.in_ok-printed.ensures.fits,
    )

pub returns-clause-uses : goal.returns-clause-uses
returns-clause-uses g c =
    let plain_by : (Bytes → Option (InputValue g.row.S.Denot)) → PlainOperation g.row.S.Denot = λ v. plain_operation g.S.ScalarValue.answer g.S.ScalarValue.of_bool v (fragments_listed c.args.document.now) c.args.operation.now in
    subst (λ v. AreSame c.in_ok-printed.printed.used.keys (variables_used (plain_by v).set)) c.in_ok-values.ensures c.in_ok-printed.ensures.uses
