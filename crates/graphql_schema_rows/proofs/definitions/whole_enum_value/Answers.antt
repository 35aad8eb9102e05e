use Rattle.std.proofs.Common.{true, false, ap, ◌∙◌, Err}
use Rattle.graphql_grammar.specs.declared.kind.Kind.TheVariants as k
use Rattle.graphql_grammar.proofs.Parts.{exits_with}
use Rattle.graphql_grammar.proofs.KindTests.{asked_kind}
use Rattle.graphql_schema_rows.specs.ReadDefinitions as spec
use Rattle.graphql_schema_rows.proofs.WholeTexts.{whole_goes_on, whole_read, whole_refused}
use Rattle.graphql_schema_rows.proofs.definitions.whole_enum_value.Goals as goal

pub returns-in_err-found : goal.returns-in_err-found
returns-in_err-found g c =
    let part = spec.enum_value g.S.ParseScalarValue.reads g.S.ScalarValue.of_bool in
    exits_with c.from_residual.result c.enum_value.new.cursor c.from_residual.ensures.1 c.in_err-found.ensures.reads (whole_refused part c.args.cursor.now)

pub returns-then-eq : goal.returns-then-eq
returns-then-eq g c =
    let part = spec.enum_value g.S.ParseScalarValue.reads g.S.ScalarValue.of_bool in
    let seen = asked_kind k.EndOfFile c.enum_value.new.cursor c.kind.result true c.kind.ensures c.if-eq.ensures in
    whole_read part c.args.cursor.now c.in_ok-found.ensures.reads seen

pub returns : goal.returns
returns g c =
    let part = spec.enum_value g.S.ParseScalarValue.reads g.S.ScalarValue.of_bool in
    let seen = asked_kind k.EndOfFile c.enum_value.new.cursor c.kind.result false c.kind.ensures c.if-eq.ensures in
    λ told. whole_goes_on part c.args.cursor.now c.in_ok-found.ensures.reads seen ∙ ap Err (c.refuse.ensures told)
