use Rattle.std.proofs.Common.{◌≡◌, refl}
use Rattle.graphql_tree.specs.Arguments.{Argument}
use Rattle.graphql_values.specs.SameValue.{SameValue}
use Rattle.graphql_merging.proofs.ItemLemmas.{found_at}
use Rattle.graphql_merging.proofs.arguments.is_among.Goals as goal

pub returns-then-like : goal.returns-then-like
returns-then-like g c =
    let like = λ (y : Argument g.row.S.Denot). (c.args.argument.now.0.item ≡ y.0.item) × SameValue _ g.S.PartialEq.eq c.args.argument.now.1.item y.1.item in
    (λ _. found_at like c.args.others.now c.loop-other.other-index c.other-item.result c.loop-other-test.true c.other-item.is (c.in_ok-like.ensures.0 c.if-like.true), λ _. refl)
