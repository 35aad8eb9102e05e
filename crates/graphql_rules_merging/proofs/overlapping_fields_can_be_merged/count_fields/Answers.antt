use Rattle.std.proofs.Common.{◌∙◌, ◌≤◌, arith, subst, take_all}
use Rattle.graphql_merging.specs.FieldNodes.{fields_written}
use Rattle.graphql_bundles.proofs.Counts.{written-more}
use Rattle.graphql_rules_merging.proofs.overlapping_fields_can_be_merged.count_fields.Goals as goal

pub loop-set-init : goal.loop-set-init
loop-set-init g c = omega arith

pub loop-set-preserved : goal.loop-set-preserved
loop-set-preserved g c =
    let more = written-more c.as_slice-set-items.result.now c.loop-set.set-index c.set-item.result c.loop-set-test.true c.set-item.is in
    omega (arith, more, c.loop-set.invariant, c.saturating_add-fields.ensures, c.len.ensures)

pub returns : goal.returns
returns g c =
    subst (λ sets. c.loop-set.fields ≤ fields_written sets) (take_all c.loop-set.set-index c.as_slice-set-items.result.now c.loop-set-test.false ∙ c.as_slice-set-items.ensures) c.loop-set.invariant
