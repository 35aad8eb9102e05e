use Rattle.std.proofs.Common.{[], ap, arith, reverse, subst, length, take_all, ◌+◌, ◌*◌, ◌≤◌}
use Rattle.graphql_bundles.specs.Counted.{fields_of_groups}
use Rattle.graphql_bundles.proofs.Sums.{more-squares}
use Rattle.graphql_bundles.specs.Conflicts.{places}
use Rattle.graphql_bundles.specs.Direct.{DirectParts}
use Rattle.graphql_bundles.specs.Groups.{KeyGroup}
use Rattle.graphql_bundles.proofs.VisitLemmas.{GroupsTold, groups-told-none, groups-told-more, groups-told-all}
use Rattle.graphql_bundles.proofs.visits.direct_groups.Goals as goal

pub returns-clause-told : goal.returns-clause-told
returns-clause-told g c = λ fragments.
    let eq = g.S.PartialEq.eq in
    let types = c.args.schema.now.types in
    groups-told-all eq types fragments c.args.fields.now c.args.groups.now (places c.args.told.now) (places c.loop-group.told) c.requires
    (subst (λ gs. GroupsTold eq types fragments c.args.fields.now gs (places c.args.told.now) (places c.loop-group.told))
    (take_all c.loop-group.group-index c.args.groups.now c.loop-group-test.false) (c.loop-group.invariant.told fragments))

pub returns-clause-counted : goal.returns-clause-counted
returns-clause-counted g c =
    subst (λ gs. c.loop-group.comparisons ≤ c.args.comparisons.now + fields_of_groups gs * fields_of_groups gs)
    (take_all c.loop-group.group-index c.args.groups.now c.loop-group-test.false) c.loop-group.invariant.counted

pub loop-group-init : goal.loop-group-init
loop-group-init g c = record {
  counted = omega arith;
  told = λ fragments. groups-told-none g.S.PartialEq.eq c.args.schema.now.types fragments c.args.fields.now (places c.args.told.now);
}

pub loop-group-preserved : goal.loop-group-preserved
loop-group-preserved g c = record {
  counted =
      let groups = c.args.groups.now in
      let size = λ (h : KeyGroup g.row.S.Denot g.row.C.Denot). length h.1 in
      let fields = ap length c.as_slice.ensures in
      more-squares size groups c.loop-group.group-index c.group-item.result c.args.comparisons.now c.loop-group.comparisons c.direct_group.new.comparisons
      c.loop-group-test.true c.group-item.is c.loop-group.invariant.counted
      (subst (λ n. c.direct_group.new.comparisons ≤ c.loop-group.comparisons + n * n) fields c.in_ok-direct_group.ensures.counted);
  told = λ fragments.
      let eq = g.S.PartialEq.eq in
      let types = c.args.schema.now.types in
      groups-told-more eq types fragments c.args.fields.now c.args.groups.now c.loop-group.group-index c.group-item.result (places c.args.told.now)
      (places c.loop-group.told) (places c.direct_group.new.told) c.requires c.loop-group-test.true c.group-item.is (c.loop-group.invariant.told fragments)
      (subst (λ fs. DirectParts eq types fragments (reverse fs) [] (places c.loop-group.told) (places c.direct_group.new.told)) c.as_slice.ensures
      (c.in_ok-direct_group.ensures.told fragments));
}
