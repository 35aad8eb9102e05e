use Rattle.std.proofs.Common.{refl, arith, sym, ◌∙◌}
use Rattle.std.proofs.lemmas.Bool.{false≢true}
use Rattle.graphql_merging.proofs.SameWraps.{wraps-at, wraps-from, differ}
use Rattle.graphql_merging.proofs.wraps.same_wraps.Goals as goal

pub returns-then-is_list : goal.returns-then-is_list
returns-then-is_list c = (
  (λ f. absurd (false≢true f)),
  (λ same. absurd (differ c.is_list.result c.is_list-in-loop-index.result c.if-is_list.true
      (c.is_list.ensures ∙ wraps-at c.args.left.now c.args.right.now same c.loop-index.index _ _ c.loop-index-test.true ∙ sym c.is_list-in-loop-index.ensures))),
)

pub returns : goal.returns
returns c = ((λ _. wraps-from c.args.left.now c.args.right.now c.if-left-right.false (λ k x y h. c.loop-index.invariant k x y (omega arith))), (λ _. refl))
