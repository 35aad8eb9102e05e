use Rattle.std.proofs.Common.{◌∙◌, ap, sym, subst, ◌≤◌, ◌∷◌, ◌++◌, [], List, take, take_all, length, arith}
use Rattle.graphql_bundles.specs.Conflicts.{places}
use Rattle.graphql_merging.specs.declared.table.WrittenField.{WrittenField}
use Rattle.graphql_bundles.specs.declared.direct.Split.{Split}
use Rattle.graphql_bundles.proofs.DirectLemmas.{Sorted, sorted-first, sorted-more, sorted-few, sorted-all}
use Rattle.graphql_bundles.proofs.ListLemmas.{take-one}
use Rattle.graphql_bundles.proofs.Sums.{class-square}
use Rattle.graphql_bundles.proofs.direct.sort_all.Goals as goal

pub loop-field-preserved : goal.loop-field-preserved
loop-field-preserved g c = record {
  counted = omega (arith, c.loop-field.invariant.counted, c.in_ok-sort_out.ensures.counted);
  whole = omega (arith, c.loop-field.invariant.whole, c.in_ok-sort_out.ensures.one);
  sorted = λ fragments.
      let eq = g.S.PartialEq.eq in
      let types = c.args.schema.now.types in
      let head = c.args.head.now in
      let so-far = head ∷ take c.loop-field.field-index c.args.fields.now in
      subst (λ ms. Sorted eq types fragments head ms c.sort_out.new.split (places c.args.told.now) (places c.sort_out.new.told))
      (ap (λ fs. head ∷ fs) (take-one c.args.fields.now c.loop-field.field-index c.field-item.result c.loop-field-test.true c.field-item.is))
      (sorted-more eq types fragments head so-far c.field-item.result c.loop-field.split c.sort_out.new.split (places c.args.told.now) (places c.loop-field.told)
      (places c.sort_out.new.told) (c.loop-field.invariant.sorted fragments) (c.in_ok-sort_out.ensures.sorted fragments));
  few = sorted-few g.S.PartialEq.eq c.args.schema.now.types [] c.args.head.now c.field-item.result c.loop-field.split c.sort_out.new.split c.loop-field.field-index
      (places c.loop-field.told) (places c.sort_out.new.told) (c.in_ok-sort_out.ensures.sorted []) c.loop-field.invariant.few;
}

pub loop-field-init : goal.loop-field-init
loop-field-init g c = record {
  counted = omega arith;
  whole =
      let one = ap length (c.in_ok-push.ensures.ok ∙ ap (λ fs. fs ++ c.args.head.now ∷ []) c.new.ensures) in
      let none = ap length c.new-2.ensures in
      omega (arith, one, none);
  sorted = λ fragments.
      let head = c.args.head.now in
      let split : Split g.row.S.Denot g.row.C.Denot = record { alike = c.push.new.self; others = c.new-2.result } in
      sorted-first g.S.PartialEq.eq c.args.schema.now.types fragments head split (places c.args.told.now)
      (c.in_ok-push.ensures.ok ∙ ap (λ fs. fs ++ head ∷ []) c.new.ensures) c.new-2.ensures;
  few = subst (λ (fs : List (WrittenField g.row.S.Denot g.row.C.Denot)). length fs ≤ 0) (sym c.new-2.ensures) (omega arith);
}

pub returns : goal.returns
returns g c = record {
  counted =
      let n = length c.args.fields.now in
      let end = c.loop-field.auto.field-index-end in
      let square = class-square (length c.loop-field.split.alike) (length c.loop-field.split.others) n
      (omega (arith, c.loop-field.invariant.whole, c.loop-field-test.false, end)) (omega (arith, c.loop-field.invariant.few, end)) in
      omega (arith, square, c.loop-field.invariant.counted, end);
  parts = λ fragments.
      let eq = g.S.PartialEq.eq in
      let types = c.args.schema.now.types in
      let head = c.args.head.now in
      sorted-all eq types fragments head (head ∷ c.args.fields.now) c.loop-field.split (places c.args.told.now) (places c.loop-field.told)
      (subst (λ fs. Sorted eq types fragments head (head ∷ fs) c.loop-field.split (places c.args.told.now) (places c.loop-field.told))
      (take_all c.loop-field.field-index c.args.fields.now c.loop-field-test.false) (c.loop-field.invariant.sorted fragments));
  fewer = omega (arith, c.loop-field.invariant.few, c.loop-field.auto.field-index-end);
}
