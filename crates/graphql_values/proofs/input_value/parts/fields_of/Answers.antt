use Rattle.std.proofs.Common.{◌∙◌, refl}
use Rattle.graphql_values.proofs.PartsLemmas.{field_more}
use Rattle.graphql_values.proofs.input_value.parts.fields_of.Goals as goal

pub loop-pair-preserved : goal.loop-pair-preserved
loop-pair-preserved g c =
    field_more (λ v. v.now) c.as_slice-pair-items.result.now c.loop-pair.pair-index c.pair-item.result c.loop-pair.fields.entries _ c.new.result _ c.loop-pair.invariant c.loop-pair-test.true c.pair-item.is (c.new.ensures ∙ c.as_str.ensures) c.in_ok-insert.ensures.entries refl
