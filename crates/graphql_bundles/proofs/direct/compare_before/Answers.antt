use Rattle.std.proofs.Common.{arith, subst, take_all}
use Rattle.graphql_bundles.specs.Conflicts.{places}
use Rattle.graphql_bundles.specs.Direct.{ComparesBefore}
use Rattle.graphql_bundles.proofs.DirectLemmas.{before-none, before-more}
use Rattle.graphql_bundles.proofs.direct.compare_before.Goals as goal

pub returns-clause-told : goal.returns-clause-told
returns-clause-told g c = λ fragments.
    subst (λ fs. ComparesBefore g.S.PartialEq.eq c.args.schema.now.types fragments fs c.args.field.now (places c.args.told.now) (places c.loop-other.told))
    (take_all c.loop-other.other-index c.args.earlier.now c.loop-other-test.false) (c.loop-other.invariant.told fragments)

pub loop-other-init : goal.loop-other-init
loop-other-init g c = record {
  counted = omega arith;
  told = λ fragments. before-none g.S.PartialEq.eq c.args.schema.now.types fragments c.args.field.now (places c.args.told.now);
}

pub loop-other-preserved : goal.loop-other-preserved
loop-other-preserved g c = record {
  counted = omega (arith, c.loop-other.invariant.counted, c.compare.ensures.counted);
  told = λ fragments.
      before-more g.S.PartialEq.eq c.args.schema.now.types fragments c.args.earlier.now c.args.field.now c.loop-other.other-index c.other-item.result
      (places c.args.told.now) (places c.loop-other.told) (places c.compare.new.told) c.loop-other-test.true c.other-item.is (c.loop-other.invariant.told fragments)
      (c.in_ok-compare.ensures.told fragments);
}
