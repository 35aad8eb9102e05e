use Rattle.std.proofs.Common.{arith, length, map, take, take_all, subst}
use Rattle.std.proofs.lemmas.Nat.{mul-le}
use Rattle.graphql_merging.specs.Tables.{pieces_of, piece_field}
use Rattle.graphql_rules_merging.specs.Comparing.{with_each, between, stage_of, Compares}
use Rattle.graphql_rules_merging.proofs.Comparisons.{between_more, compares_none, compares_both}
use Rattle.graphql_bundles.proofs.ListLemmas.{at-place}
use Rattle.graphql_rules_merging.proofs.Classing.{numbered-with}
use Rattle.graphql_rules_merging.proofs.fields.compare_between.Goals as goal

pub returns-clause-compared : goal.returns-clause-compared
returns-clause-compared g c = λ fragments.
    subst
    (λ lefts. Compares g.S.PartialEq.eq c.args.schema.now.types (pieces_of fragments c.args.table.now) c.args.around
    (between (map (piece_field fragments) lefts) (map (piece_field fragments) c.args.rights.now)) (stage_of c.args.progress.now) (stage_of c.loop-left.progress))
    (take_all c.loop-left.left-index c.args.lefts.now c.loop-left-test.false) (c.loop-left.invariant.compared fragments)

pub returns-clause-counted : goal.returns-clause-counted
returns-clause-counted g c =
    let end = c.loop-left.auto.left-index-end in
    let all = mul-le c.loop-left.left-index (length c.args.rights.now) (length c.args.lefts.now) (length c.args.rights.now) end (omega arith) in
    omega (arith, all, c.loop-left.invariant.counted)

pub loop-left-init : goal.loop-left-init
loop-left-init g c = record {
  counted = omega arith;
  compared = λ fragments. compares_none g.S.PartialEq.eq c.args.schema.now.types (pieces_of fragments c.args.table.now) c.args.around (stage_of c.args.progress.now);
}

pub loop-left-preserved : goal.loop-left-preserved
loop-left-preserved g c = record {
  counted = omega (arith, c.loop-left.invariant.counted, c.in_ok-compare_with.ensures.counted);
  compared = λ fragments.
      let rights = map (piece_field fragments) c.args.rights.now in
      subst (λ ps. Compares g.S.PartialEq.eq c.args.schema.now.types (pieces_of fragments c.args.table.now) c.args.around ps (stage_of c.args.progress.now) (stage_of c.compare_with.new.progress))
      (between_more (piece_field fragments) rights c.args.lefts.now c.loop-left.left-index c.left-item.result c.loop-left-test.true c.left-item.is)
      (compares_both g.S.PartialEq.eq c.args.schema.now.types (pieces_of fragments c.args.table.now) c.args.around
      (between (map (piece_field fragments) (take c.loop-left.left-index c.args.lefts.now)) rights) (with_each (piece_field fragments c.left-item.result) rights)
      (stage_of c.args.progress.now) (stage_of c.loop-left.progress) (stage_of c.compare_with.new.progress) (c.loop-left.invariant.compared fragments) (c.in_ok-compare_with.ensures.compared fragments));
}

pub compare_with-requires : goal.compare_with-requires
compare_with-requires g c =
    numbered-with g.S.PartialEq.eq c.args.schema.now.types c.args.numbers.now c.left-item.result c.args.lefts.now c.args.rights.now c.args.rights.now
    (at-place c.args.lefts.now c.loop-left.left-index c.left-item.result c.loop-left-test.true c.left-item.is) (λ h i. i) c.requires
