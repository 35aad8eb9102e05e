use Rattle.std.proofs.Common.{ap, arith, subst, take_all, sym, map, []}
use Rattle.std.specs.List.{IsDistinct}
use Rattle.std.specs.Str.{bytes_eq}
use Rattle.graphql_bundles.specs.Counted.{fields_of_groups}
use Rattle.graphql_bundles.specs.Groups.{IsGrouped}
use Rattle.graphql_bundles.proofs.GroupLemmas.{grouped-none, grouped-more}
use Rattle.graphql_bundles.proofs.groups.grouped_few.Goals as goal

pub loop-field-init : goal.loop-field-init
unfolding IsDistinct
loop-field-init g c = record {
  whole = ap fields_of_groups c.in_ok-groups.ensures;
  distinct = subst (λ hs. IsDistinct bytes_eq (map (λ h. h.0) hs)) (sym c.in_ok-groups.ensures) tt;
  grouped = subst (IsGrouped []) (sym c.in_ok-groups.ensures) grouped-none;
}

pub loop-field-preserved : goal.loop-field-preserved
loop-field-preserved g c = record {
  whole = omega (arith, c.loop-field.invariant.whole, c.in_ok-put_at.ensures.one);
  distinct = c.in_ok-put_at.ensures.distinct;
  grouped = grouped-more c.args.fields.now c.loop-field.field-index c.field-item.result c.loop-field.groups c.put_at.new.groups c.loop-field-test.true
      c.field-item.is c.loop-field.invariant.grouped c.in_ok-put_at.ensures.put;
}

pub returns-clause-grouped : goal.returns-clause-grouped
returns-clause-grouped g c =
    subst (λ fs. IsGrouped fs c.loop-field.groups) (take_all c.loop-field.field-index c.args.fields.now c.loop-field-test.false) c.loop-field.invariant.grouped
