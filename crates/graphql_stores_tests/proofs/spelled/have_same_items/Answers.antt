use Rattle.std.proofs.Common.{◌≡◌, ◌<◌, ◌∙◌, ap, sym, subst, IsTrue, arith, length, below_more, get_or}
use Rattle.std.proofs.lemmas.List.{get_or_read}
use Rattle.graphql_grammar.specs.Input.{Located}
use Rattle.graphql_stores_tests.proofs.SameTexts.{item-at, same-throughout}
use Rattle.graphql_stores_tests.proofs.spelled.have_same_items.Goals as goal

pub loop-place-preserved : goal.loop-place-preserved
loop-place-preserved c =
    let ts = c.args.tokens.now in
    let us = c.args.others.now in
    let place = c.loop-place.place in
    let here : place < length ts = omega arith in
    let beside : place < length us = omega arith in
    below_more _ _ c.loop-place.invariant
    (λ d.
    ap (λ (t : Located). t.item) (sym (get_or_read ts place c.index-tokens-place.result here c.index-tokens-place.is d))
    ∙ c.have_one_item.ensures.0 c.if-not-have_one_item.false
    ∙ ap (λ (t : Located). t.item) (get_or_read us place c.index-others-place.result beside c.index-others-place.is d))

pub returns-then-not-have_one_item : goal.returns-then-not-have_one_item
returns-then-not-have_one_item c =
    let ts = c.args.tokens.now in
    let place = c.loop-place.place in
    let one = c.index-tokens-place.result in
    let other = c.index-others-place.result in (
      (λ is. absurd (cc)),
      (λ same.
          let alike : one.item ≡ other.item =
          ap (λ (t : Located). t.item) (get_or_read ts place one c.loop-place-test.true c.index-tokens-place.is other)
          ∙ item-at ts c.args.others.now same place other
          ∙ ap (λ (t : Located). t.item) (sym c.index-others-place.is) in
          subst IsTrue c.if-not-have_one_item.true (c.have_one_item.ensures.1 alike)),
    )

pub returns : goal.returns
returns c =
    (λ _. same-throughout c.args.tokens.now c.args.others.now (omega arith) (λ k within. c.loop-place.invariant k (omega arith)), λ _. cc)
