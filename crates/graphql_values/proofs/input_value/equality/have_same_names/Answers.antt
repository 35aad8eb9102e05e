use Rattle.std.proofs.Common.{◌≡◌, ◌<◌, length, ap, sym, refl, ◌∙◌, arith}
use Rattle.std.proofs.lemmas.Bool.{false≢true}
use Rattle.graphql_values.specs.Comparing.{lent}
use Rattle.graphql_values.proofs.ByNameLemmas.{lend, lent_at, lent_is, lent_length}
use Rattle.graphql_values.proofs.OrderLemmas.{names_from, names_here}
use Rattle.graphql_values.proofs.SameValueLemmas.{refuted}
use Rattle.graphql_values.proofs.input_value.equality.have_same_names.Goals as goal

pub returns-then-not-is : goal.returns-then-not-is
returns-then-not-is g c =
    let mine = c.as_slice-pair-items.result.now in
    let theirs = c.as_slice-others.result.now in
    let at = c.loop-index.index in
    let x = c.pair-item.result in
    let y = c.index-others-index.result in
    let within : at < length (lent mine) = omega (arith, lent_length mine, c.loop-index-test.true) in (
      λ f. absurd (false≢true f),
      λ same. refuted _ c.if-not-is.true (c.is.ensures.same.1
          (names_here (lent mine) (lent theirs) (lent c.args.left.now) (lent c.args.right.now) at x.now y.now (ap lent c.as_slice-pair-items.ensures) (ap lent c.as_slice-others.ensures) within (lent_is mine at x c.pair-item.is) (lent_is theirs at y c.index-others-index.is) same
          ∙ ap (λ z. z.now.0.item) c.index-others-index.is ∙ sym c.as_str.ensures)),
    )

pub returns : goal.returns
returns g c =
    let left = c.args.left.now in
    let right = c.args.right.now in
    let long : length c.as_slice-pair-items.result.now ≡ length left = ap length c.as_slice-pair-items.ensures in
    let other : length c.as_slice-others.result.now ≡ length right = ap length c.as_slice-others.ensures in
    let e : length (lent left) ≡ length (lent right) = omega (arith, long, other, lent_length left, lent_length right) in (
      λ _.
          names_from (lent left) (lent right) e
          (λ k x y within.
          ap (λ p. p.0.item) (lent_at left k x) ∙ c.loop-index.invariant k (lend x) (lend y) (omega (arith, long, within, lent_length left, c.loop-index-test.false)) ∙ ap (λ p. p.0.item) (sym (lent_at right k y))),
      λ _. refl,
    )
