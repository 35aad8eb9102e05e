use Rattle.std.proofs.Common.{◌↔◌, IfOk, IsTrue, subst}
use Rattle.std.specs.List.{All}
use Rattle.graphql_schema.proofs.MeantScalars.{scalars_of}
use Rattle.graphql_schema.specs.Types.{fields_of, input_fields_of}
use Rattle.graphql_literal_checks.specs.Defaults.{ArgumentConforms, FieldConforms}
use Rattle.graphql_literal_checks.proofs.Decided.{both_told, fails, refuted}
use Rattle.graphql_literal_checks.proofs.defaults.type_conforms.Goals as goal

pub returns-then-not-branch : goal.returns-then-not-branch
returns-then-not-branch g c =
    let scalars = scalars_of g.S.ParseScalarValue g.S.ScalarValue g.S.PartialEq g.S.Check.Check in
    let fact = All (FieldConforms scalars c.args.schema.now.types) in
    let told = subst (λ fields. IsTrue c.in_ok-fields_conform.field-0 ↔ fact fields) c.fields.ensures c.in_ok-fields_conform.ensures in
    fails (λ both. refuted c.in_ok-fields_conform.field-0 c.if-not-branch.true told both.0)

pub returns : goal.returns
returns g c =
    let scalars = scalars_of g.S.ParseScalarValue g.S.ScalarValue g.S.PartialEq g.S.Check.Check in
    let fields = All (FieldConforms scalars c.args.schema.now.types) in
    let inputs = All (ArgumentConforms scalars c.args.schema.now.types) in
    let first = subst fields c.fields.ensures (c.in_ok-fields_conform.ensures.0 c.if-not-branch.false) in
    let second = subst (λ arguments. IfOk c.arguments_conform.result (λ told. IsTrue told ↔ inputs arguments)) c.input_fields.ensures c.arguments_conform.ensures in
    both_told (fields (fields_of c.args.meta.now)) (inputs (input_fields_of c.args.meta.now)) c.arguments_conform.result first second
