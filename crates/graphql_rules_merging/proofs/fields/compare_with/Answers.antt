use Rattle.std.proofs.Common.{arith, map, take, take_all, subst, [], ◌∷◌}
use Rattle.graphql_merging.specs.Tables.{pieces_of, piece_field}
use Rattle.graphql_rules_merging.specs.Comparing.{with_each, stage_of, Compares}
use Rattle.graphql_rules_merging.proofs.Comparisons.{with_each_more, compares_none, compares_both}
use Rattle.graphql_bundles.proofs.ListLemmas.{at-place, here}
use Rattle.graphql_rules_merging.proofs.Classing.{numbered-one}
use Rattle.graphql_rules_merging.proofs.fields.compare_with.Goals as goal

pub returns-clause-compared : goal.returns-clause-compared
returns-clause-compared g c = λ fragments.
    subst
    (λ others. Compares g.S.PartialEq.eq c.args.schema.now.types (pieces_of fragments c.args.table.now) c.args.around
    (with_each (piece_field fragments c.args.left.now) (map (piece_field fragments) others)) (stage_of c.args.progress.now) (stage_of c.loop-right.progress))
    (take_all c.loop-right.right-index c.args.others.now c.loop-right-test.false) (c.loop-right.invariant.compared fragments)

pub loop-right-init : goal.loop-right-init
loop-right-init g c = record {
  counted = omega arith;
  compared = λ fragments. compares_none g.S.PartialEq.eq c.args.schema.now.types (pieces_of fragments c.args.table.now) c.args.around (stage_of c.args.progress.now);
}

pub loop-right-preserved : goal.loop-right-preserved
loop-right-preserved g c = record {
  counted = omega (arith, c.loop-right.invariant.counted, c.compare.ensures.counted);
  compared = λ fragments.
      let one = piece_field fragments c.args.left.now in
      subst (λ ps. Compares g.S.PartialEq.eq c.args.schema.now.types (pieces_of fragments c.args.table.now) c.args.around ps (stage_of c.args.progress.now) (stage_of c.compare.new.progress))
      (with_each_more (piece_field fragments) one c.args.others.now c.loop-right.right-index c.right-item.result c.loop-right-test.true c.right-item.is)
      (compares_both g.S.PartialEq.eq c.args.schema.now.types (pieces_of fragments c.args.table.now) c.args.around
      (with_each one (map (piece_field fragments) (take c.loop-right.right-index c.args.others.now))) _ (stage_of c.args.progress.now) (stage_of c.loop-right.progress)
      (stage_of c.compare.new.progress) (c.loop-right.invariant.compared fragments) (c.in_ok-compare.ensures.compared fragments));
}

pub compare-requires : goal.compare-requires
compare-requires g c =
    numbered-one g.S.PartialEq.eq c.args.schema.now.types c.args.numbers.now c.args.left.now c.right-item.result (c.args.left.now ∷ []) c.args.others.now
    (here c.args.left.now []) (at-place c.args.others.now c.loop-right.right-index c.right-item.result c.loop-right-test.true c.right-item.is) c.requires
