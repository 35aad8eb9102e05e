use Rattle.std.proofs.Common.{Ok, Err, ◌∙◌, sym, ap, refl, arith}
use Rattle.graphql_grammar.specs.Input.{Input, Fault}
use Rattle.graphql_values.specs.declared.input_value.InputValue.TheVariants as v
use Rattle.graphql_grammar.proofs.Cursors.{refused_stands}
use Rattle.graphql_grammar.proofs.Leaves.{behind_same, behind_next}
use Rattle.graphql_value_syntax.proofs.ValueSteps.{scalar_taken, scalar_refused, scalar_missing}
use Rattle.graphql_value_syntax.proofs.value.scalar.Goals as goal

pub returns-in-Ok-clause-reads : goal.returns-in-Ok-clause-reads
returns-in-Ok-clause-reads g c =
    scalar_taken {S = g.row.S.Denot} g.S.ParseScalarValue.reads v.Scalar c.args.cursor.now c.peek-next.result c.in-Scalar.token c.in-Ok.scalar c.peek-next.ensures c.in-Scalar.is c.in-Ok.ensures
    ∙ ap (λ (j : Input). Ok (v.Scalar c.in-Ok.scalar, j)) (sym c.advance.ensures.next)

pub returns-in-Err-clause-reads : goal.returns-in-Err-clause-reads
returns-in-Err-clause-reads g c = λ told.
    scalar_refused {S = g.row.S.Denot} g.S.ParseScalarValue.reads v.Scalar c.args.cursor.now c.peek-next.result c.in-Scalar.token c.in-Err.error c.peek-next.ensures c.in-Scalar.is (c.in-Err.ensures (λ memory. told (ap (λ (x : Fault). x.item) c.new.ensures ∙ memory)))
    ∙ ap Err (sym c.new.ensures)

pub returns-in_default : goal.returns-in_default
returns-in_default g c = record {
  reads = λ told. scalar_missing {S = g.row.S.Denot} g.S.ParseScalarValue.reads v.Scalar c.args.cursor.now c.peek-next.result c.peek-next.ensures c.in_default.not-Scalar ∙ ap Err (c.refuse.ensures told);
  no_more = omega arith;
  behind = behind_same refl;
  stands = refused_stands c.args.cursor.now c.refuse.result c.refuse.ensures;
}

pub returns-in-Ok-clause-behind : goal.returns-in-Ok-clause-behind
returns-in-Ok-clause-behind g c = behind_next c.advance.ensures.next
