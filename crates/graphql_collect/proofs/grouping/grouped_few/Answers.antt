use Rattle.std.proofs.Common.{◌∙◌, ap, sym, subst, map, take_all}
use Rattle.std.specs.List.{IsDistinct}
use Rattle.std.specs.Str.{bytes_eq}
use Rattle.graphql_written_out.specs.Groups.{groups}
use Rattle.graphql_collect.specs.Grouped.{all_found, group_found}
use Rattle.graphql_collect.proofs.Keyed.{grouped-more}
use Rattle.graphql_collect.proofs.grouping.grouped_few.Goals as goal

pub loop-occurrence-preserved : goal.loop-occurrence-preserved
loop-occurrence-preserved g c = record {
  distinct = c.in_ok-put_at.ensures.distinct;
  grouped = λ fragments.
      grouped-more fragments c.occurrence-item.result c.args.found.now c.loop-occurrence.occurrence-index c.loop-occurrence.groups c.put_at.new.groups
      c.loop-occurrence-test.true c.occurrence-item.is (c.loop-occurrence.invariant.grouped fragments) c.in_ok-put_at.ensures.put;
}

pub returns : goal.returns
returns g c = λ fragments.
    c.loop-occurrence.invariant.grouped fragments ∙ ap (λ xs. groups (all_found fragments xs)) (take_all _ _ c.loop-occurrence-test.false)

pub loop-occurrence-init : goal.loop-occurrence-init
unfolding IsDistinct
loop-occurrence-init g c = record {
  distinct = subst (λ hs. IsDistinct bytes_eq (map (λ h. h.0) hs)) (sym c.in_ok-groups.ensures) tt;
  grouped = λ fragments. ap (map (group_found fragments)) c.in_ok-groups.ensures;
}
