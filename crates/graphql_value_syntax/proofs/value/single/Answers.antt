use Rattle.std.proofs.Common.{◌≡◌, ◌≢◌, false, ◌∙◌, sym}
use Rattle.graphql_grammar.specs.declared.kind.Kind.TheVariants as k
use Rattle.graphql_grammar.specs.Input.{peek_kind}
use Rattle.graphql_value_syntax.proofs.ValueSteps.{reads_as, single_variable, single_scalar, single_word}
use Rattle.graphql_value_syntax.proofs.value.single.Goals.{in_default-via-in-Dollar+else-not-is_const, in_default-via-in_default}
use Rattle.graphql_value_syntax.proofs.value.single.Goals as goal

pub returns-in-Dollar-clause-reads : goal.returns-in-Dollar-clause-reads
returns-in-Dollar-clause-reads g c =
    reads_as c.variable.result c.variable.new.cursor
    (single_variable {S = g.row.S.Denot} g.S.ParseScalarValue.reads g.S.ScalarValue.of_bool c.args.is_const c.args.cursor.now c.if-not-is_const.true (sym c.in-Dollar.ensures))
    c.variable.ensures.reads

pub returns-in-Scalar-clause-reads : goal.returns-in-Scalar-clause-reads
returns-in-Scalar-clause-reads g c =
    reads_as c.scalar.result c.scalar.new.cursor
    (single_scalar {S = g.row.S.Denot} g.S.ParseScalarValue.reads g.S.ScalarValue.of_bool c.args.is_const c.args.cursor.now (sym c.in-Scalar.ensures)) c.scalar.ensures.reads

pub returns-in_default-clause-reads : goal.returns-in_default-clause-reads
returns-in_default-clause-reads g c =
    let i = c.args.cursor.now in
    let no_variable : c.args.is_const ≡ false → peek_kind i ≢ k.Dollar = λ may e. elim c.in_default.branch [
      | in_default-via-in-Dollar+else-not-is_const w ↦ absurd (let h = w.if-not-is_const.false in cc)
      | in_default-via-in_default w ↦ absurd (w.in_default.not-Dollar (c.kind.ensures ∙ e))
    ] in
    let no_scalar : peek_kind i ≢ k.Scalar = λ e. elim c.in_default.branch [
      | in_default-via-in-Dollar+else-not-is_const w ↦ absurd (let h : k.Dollar ≡ k.Scalar = w.in-Dollar.ensures ∙ e in cc)
      | in_default-via-in_default w ↦ absurd (w.in_default.not-Scalar (c.kind.ensures ∙ e))
    ] in
    reads_as c.word.result c.word.new.cursor
    (single_word {S = g.row.S.Denot} g.S.ParseScalarValue.reads g.S.ScalarValue.of_bool c.args.is_const i no_variable no_scalar) c.word.ensures.reads
