use Rattle.std.proofs.Common.{Ok, true, false, ◌∙◌, sym, ap, refl}
use Rattle.graphql_values.specs.declared.input_value.InputValue.TheVariants as v
use Rattle.graphql_grammar.specs.declared.kind.Kind.TheVariants as k
use Rattle.graphql_grammar.specs.Input.{Input}
use Rattle.graphql_value_syntax.proofs.ValueSteps.{reads_as, word_taken, word_other}
use Rattle.graphql_grammar.proofs.Leaves.{behind_next}
use Rattle.graphql_value_syntax.proofs.value.word.Goals as goal

pub returns-in-True-clause-reads : goal.returns-in-True-clause-reads
returns-in-True-clause-reads g c =
    word_taken {S = g.row.S.Denot} g.S.ParseScalarValue.reads g.S.ScalarValue.of_bool c.args.cursor.now k.True (sym c.in-True.ensures) refl
    ∙ ap (λ (j : Input). Ok (v.Scalar (g.S.ScalarValue.of_bool true), j)) (sym c.advance.ensures.next)
    ∙ ap (λ (s : g.row.S.Denot). Ok (v.Scalar s, c.advance.new.self)) (sym c.from_bool.ensures)

pub returns-in-False-clause-reads : goal.returns-in-False-clause-reads
returns-in-False-clause-reads g c =
    word_taken {S = g.row.S.Denot} g.S.ParseScalarValue.reads g.S.ScalarValue.of_bool c.args.cursor.now k.False (sym c.in-False.ensures) refl
    ∙ ap (λ (j : Input). Ok (v.Scalar (g.S.ScalarValue.of_bool false), j)) (sym c.advance-in-False.ensures.next)
    ∙ ap (λ (s : g.row.S.Denot). Ok (v.Scalar s, c.advance-in-False.new.self)) (sym c.from_bool-in-False.ensures)

pub returns-in-Null-clause-reads : goal.returns-in-Null-clause-reads
returns-in-Null-clause-reads g c =
    word_taken {S = g.row.S.Denot} g.S.ParseScalarValue.reads g.S.ScalarValue.of_bool c.args.cursor.now k.Null (sym c.in-Null.ensures) refl
    ∙ ap (λ (j : Input). Ok (v.Null, j)) (sym c.advance-in-Null.ensures.next)

pub returns-in_default-clause-reads : goal.returns-in_default-clause-reads
returns-in_default-clause-reads g c =
    let i = c.args.cursor.now in
    reads_as c.enum_value.result c.enum_value.new.cursor (word_other {S = g.row.S.Denot} g.S.ParseScalarValue.reads g.S.ScalarValue.of_bool i (λ e. c.in_default.not-True (c.kind.ensures ∙ e)) (λ e. c.in_default.not-False (c.kind.ensures ∙ e)) (λ e. c.in_default.not-Null (c.kind.ensures ∙ e)))
    c.enum_value.ensures.reads

pub returns-in-True-clause-behind : goal.returns-in-True-clause-behind
returns-in-True-clause-behind g c = behind_next c.advance.ensures.next

pub returns-in-False-clause-behind : goal.returns-in-False-clause-behind
returns-in-False-clause-behind g c = behind_next c.advance-in-False.ensures.next

pub returns-in-Null-clause-behind : goal.returns-in-Null-clause-behind
returns-in-Null-clause-behind g c = behind_next c.advance-in-Null.ensures.next
