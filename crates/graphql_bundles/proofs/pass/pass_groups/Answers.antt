use Rattle.std.proofs.Common.{◌+◌, ◌-◌, ◌*◌, ◌≤◌, ap, arith, length, List, subst, take_all}
use Rattle.std.proofs.lemmas.List.Sums.{sum_by_more}
use Rattle.graphql_merging.specs.Tables.{pieces_of}
use Rattle.graphql_merging.specs.declared.table.WrittenField.{WrittenField}
use Rattle.graphql_bundles.specs.Bundles.{IsGroupPassed}
use Rattle.graphql_bundles.specs.Going.{GroupLeadsTo, stage_of}
use Rattle.graphql_bundles.specs.Steps.{FoundInGroups, Goes, GroupsLeadTo, GroupsPassed, IsFoundOf}
use Rattle.graphql_bundles.specs.Counted.{repeats_in_groups}
use Rattle.graphql_bundles.specs.Groups.{KeyGroup, group_of}
use Rattle.graphql_bundles.proofs.PassLemmas.{groups-none, groups-more}
use Rattle.graphql_bundles.proofs.pass.pass_groups.Goals as goal

pub returns-clause-passed : goal.returns-clause-passed
returns-clause-passed g c = λ fragments.
    let eq = g.S.PartialEq.eq in
    let types = c.args.schema.now.types in
    let t = pieces_of fragments c.args.table.now in
    subst (λ gs. Goes (FoundInGroups eq types fragments c.args.around c.args.groups.now) (GroupsLeadTo t fragments c.args.around c.args.groups.now)
    (GroupsPassed t eq types fragments c.args.around gs) (stage_of c.args.progress.now) (stage_of c.loop-group.progress))
    (take_all c.loop-group.group-index c.args.groups.now c.loop-group-test.false) (c.loop-group.invariant.passed fragments)

pub returns-clause-counted : goal.returns-clause-counted
returns-clause-counted g c =
    subst (λ gs. c.loop-group.comparisons ≤ c.args.comparisons.now + 2 * repeats_in_groups gs)
    (take_all c.loop-group.group-index c.args.groups.now c.loop-group-test.false) c.loop-group.invariant.counted

pub loop-group-init : goal.loop-group-init
loop-group-init g c = record {
  counted = omega arith;
  passed = λ fragments.
      groups-none g.S.PartialEq.eq c.args.schema.now.types c.args.table.now fragments c.args.around c.args.groups.now (stage_of c.args.progress.now);
}

pub loop-group-preserved : goal.loop-group-preserved
loop-group-preserved g c = record {
  counted =
      let size = λ (h : KeyGroup g.row.S.Denot g.row.C.Denot). length h.1 - 1 in
      let more = sum_by_more size c.args.groups.now c.loop-group.group-index c.group-item.result c.loop-group-test.true in
      let here = ap size c.group-item.is in
      let fields = ap length c.as_slice-fields.ensures in
      omega (arith, more, here, fields, c.loop-group.invariant.counted, c.in_ok-pass_group.ensures.counted);
  passed = λ fragments.
      let eq = g.S.PartialEq.eq in
      let types = c.args.schema.now.types in
      let t = pieces_of fragments c.args.table.now in
      groups-more eq types c.args.table.now fragments c.args.around c.args.groups.now c.loop-group.group-index c.group-item.result (stage_of c.args.progress.now)
      (stage_of c.loop-group.progress) (stage_of c.pass_group.new.progress) c.loop-group-test.true c.group-item.is (c.loop-group.invariant.passed fragments)
      (subst (λ (fs : List (WrittenField g.row.S.Denot g.row.C.Denot)). Goes (IsFoundOf eq types c.args.around (group_of fragments fs).fields)
      (GroupLeadsTo t c.args.around (group_of fragments fs))
      (λ stage. IsGroupPassed t eq types stage.bundles stage.told c.args.around (group_of fragments fs)) (stage_of c.loop-group.progress) (stage_of c.pass_group.new.progress))
      c.as_slice-fields.ensures (c.in_ok-pass_group.ensures.passed fragments));
}
