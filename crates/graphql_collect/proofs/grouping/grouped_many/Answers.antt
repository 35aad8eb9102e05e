use Rattle.std.proofs.Common.{◌∙◌, ap, take_all}
use Rattle.graphql_written_out.specs.Groups.{groups}
use Rattle.graphql_collect.specs.Grouped.{all_found}
use Rattle.graphql_collect.proofs.Keyed.{grouped-more}
use Rattle.graphql_collect.proofs.grouping.grouped_many.Goals as goal

pub loop-occurrence-preserved : goal.loop-occurrence-preserved
loop-occurrence-preserved g c = record {
  keys = c.in_ok-put.ensures.keys;
  distinct = c.in_ok-put.ensures.distinct;
  grouped = λ fragments.
      grouped-more fragments c.occurrence-item.result c.args.found.now c.loop-occurrence.occurrence-index c.loop-occurrence.groups c.put.new.groups
      c.loop-occurrence-test.true c.occurrence-item.is (c.loop-occurrence.invariant.grouped fragments) c.in_ok-put.ensures.put;
}

pub returns : goal.returns
returns g c = λ fragments.
    c.loop-occurrence.invariant.grouped fragments ∙ ap (λ xs. groups (all_found fragments xs)) (take_all _ _ c.loop-occurrence-test.false)
