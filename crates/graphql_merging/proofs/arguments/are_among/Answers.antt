use Rattle.std.proofs.lemmas.Bool.{false≢true}
use Rattle.graphql_values.proofs.SameValueLemmas.{refuted}
use Rattle.graphql_merging.specs.Merging.{IsAmong}
use Rattle.graphql_merging.proofs.ItemLemmas.{one_more, holds_of}
use Rattle.graphql_merging.proofs.arguments.are_among.Goals as goal

pub returns-then-not-among : goal.returns-then-not-among
returns-then-not-among g c = (
  (λ f. absurd (false≢true f)),
  (λ all. refuted _ c.if-not-among.true (c.in_ok-among.ensures.1 (holds_of (IsAmong g.S.PartialEq.eq c.args.others.now) c.args.arguments.now c.loop-argument.argument-index
      c.argument-item.result c.loop-argument-test.true c.argument-item.is all))),
)

pub loop-argument-preserved : goal.loop-argument-preserved
loop-argument-preserved g c =
    one_more (IsAmong g.S.PartialEq.eq c.args.others.now) c.args.arguments.now c.loop-argument.argument-index c.argument-item.result c.loop-argument.invariant
    c.loop-argument-test.true c.argument-item.is (c.in_ok-among.ensures.0 c.if-not-among.false)
