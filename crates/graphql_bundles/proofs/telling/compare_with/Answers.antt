use Rattle.std.proofs.Common.{arith, get_or, map, take_all, subst, inl, inr}
use Rattle.std.proofs.lemmas.Bool.{cases_lt}
use Rattle.std.proofs.lemmas.Option.{slice_get-get_or}
use Rattle.graphql_values.proofs.SameValueLemmas.{get_or_any}
use Rattle.graphql_bundles.specs.Conflicts.{places}
use Rattle.graphql_merging.specs.Members.{Member}
use Rattle.graphql_merging.specs.Merging.{Agree}
use Rattle.graphql_merging.specs.Selected.{member_of}
use Rattle.graphql_merging.specs.Told.{AddsErrors}
use Rattle.graphql_merging.specs.declared.table.WrittenField.{WrittenField}
use Rattle.graphql_merging.proofs.Reports.{adds-nothing, adds-more}
use Rattle.graphql_bundles.proofs.telling.compare_with.Goals as goal

pub returns-clause-told : goal.returns-clause-told
returns-clause-told g c = λ fragments head at.
    subst (λ fs. AddsErrors (Agree g.S.PartialEq.eq c.args.schema.now.types c.args.around)
    (map {B = Member g.row.S.Denot g.row.C.Denot × Member g.row.S.Denot g.row.C.Denot} (λ (f : WrittenField g.row.S.Denot g.row.C.Denot). (member_of fragments head.selected, member_of fragments f.selected)) fs)
    (places c.args.told.now) (places c.loop-other.told)) (take_all c.loop-other.other c.args.group.now c.loop-other-test.false)
    (c.loop-other.invariant.told fragments head at)

pub returns-clause-counted : goal.returns-clause-counted
returns-clause-counted g c =
    let few = c.loop-other.invariant.past (omega (arith, c.requires, c.loop-other-test.false)) in
    omega (arith, few, c.requires, c.loop-other-test.false)

pub loop-other-init : goal.loop-other-init
loop-other-init g c = record {
  counted = omega arith;
  past = λ less. absurd (omega (arith, less));
  told = λ fragments head at. adds-nothing (Agree g.S.PartialEq.eq c.args.schema.now.types c.args.around) (places c.args.told.now);
}

pub loop-other-preserved : goal.loop-other-preserved
loop-other-preserved g c = record {
  counted = omega (arith, c.loop-other.invariant.counted, c.compare_another.ensures.counted);
  past = λ less. elim (cases_lt c.args.place c.loop-other.other) [
    | inl h ↦ (let before = c.loop-other.invariant.past h in omega (arith, before, c.compare_another.ensures.counted))
    | inr h ↦ (let same = c.compare_another.ensures.itself (omega (arith, h, less)) in omega (arith, same, c.loop-other.invariant.counted))
  ];
  told = λ fragments head at.
      let group = c.args.group.now in
      let i = c.loop-other.other in
      let f : WrittenField g.row.S.Denot g.row.C.Denot = get_or group i head in
      adds-more (Agree g.S.PartialEq.eq c.args.schema.now.types c.args.around) (λ (f : WrittenField g.row.S.Denot g.row.C.Denot). member_of fragments f.selected)
      (member_of fragments head.selected) group i f (places c.args.told.now) (places c.loop-other.told)
      (places c.compare_another.new.told) c.loop-other-test.true (get_or_any group i head f c.loop-other-test.true)
      (c.loop-other.invariant.told fragments head at)
      (c.in_ok-compare_another.ensures.told fragments head f at (slice_get-get_or group i head c.loop-other-test.true));
}
