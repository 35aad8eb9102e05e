use Rattle.std.proofs.Common.{sym, ◌∙◌, arith, rules, length, ap}
use Rattle.graphql_http.proofs.PieceLemmas.{next_first, pieces_none, pieces_skip}
use Rattle.graphql_http.proofs.pieces.next_piece.Goals as goal

pub returns-then-not-is_empty : goal.returns-then-not-is_empty
returns-then-not-is_empty c =
    next_first c.args.separator c.args.text.now c.pieces.rest.now _ _ c.pieces.invariant.same c.pieces.invariant.within
    c.split_once.ensures.before c.split_once.ensures.after (c.split_once.ensures.fewer (search rules)) (search rules)

pub pieces-preserved : goal.pieces-preserved
pieces-preserved c = record {
  same =
      rw c.split_once.ensures.after
      (pieces_skip c.args.separator c.pieces.rest.now (sym (ap (λ x. length x) c.split_once.ensures.before) ∙ search rules)
      ∙ c.pieces.invariant.same);
  within = omega (arith, c.split_once.ensures.fewer (search rules), c.pieces.invariant.within);
}

pub returns : goal.returns
returns c = sym c.pieces.invariant.same ∙ pieces_none c.args.separator c.pieces.rest.now (search rules)
