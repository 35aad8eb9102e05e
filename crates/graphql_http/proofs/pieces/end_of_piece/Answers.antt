use Rattle.std.proofs.Common.{sym, ◌∙◌, arith}
use Rattle.graphql_http.proofs.PieceLemmas.{ends_here, ends_later, ends_nowhere}
use Rattle.graphql_http.proofs.pieces.end_of_piece.Goals as goal

pub returns-then-ends-clause-end : goal.returns-then-ends-clause-end
returns-then-ends-clause-end c =
    sym (c.bytes.invariant.so_far
    ∙ ends_here c.bytes.quoting c.args.separator c.bytes.end c.args.text.now c.bytes-test.true (sym c.ends.ensures ∙ c.if-ends.true))

pub bytes-preserved : goal.bytes-preserved
bytes-preserved c = record {
  within = omega arith;
  so_far =
      rw c.after-quoting.ensures
      (c.bytes.invariant.so_far
      ∙ ends_later c.bytes.quoting c.args.separator c.bytes.end c.args.text.now c.bytes-test.true (sym c.ends.ensures ∙ c.if-ends.false));
}

pub returns-clause-end : goal.returns-clause-end
returns-clause-end c =
    sym (c.bytes.invariant.so_far
    ∙ ends_nowhere c.bytes.quoting c.args.separator c.bytes.end c.args.text.now c.bytes-test.false)
