use Rattle.std.proofs.Common.{ap, sym, ◌∙◌}
use Rattle.graphql_field_results.specs.declared.resolved.Resolved.TheVariants as resolved
use Rattle.graphql_introspection.specs.declared.part.SchemaPart.TheVariants as part
use Rattle.graphql_introspection.specs.Told.{is_told_value}
use Rattle.graphql_introspection.proofs.Filtering.{dropped, kept}
use Rattle.graphql_introspection.proofs.nodes.enum_values.Goals.{then-is_told+in_ok-push, else-is_told}
use Rattle.graphql_introspection.proofs.nodes.enum_values.Goals as goal

pub values-preserved : goal.values-preserved
values-preserved g c =
    elim c.if-is_told.branch [
      | then-is_told+in_ok-push w ↦
          kept (λ v. resolved.Node (part.EnumValue v)) (is_told_value c.args.include) c.args.values.now c.values.value-index c.value-item.result c.values.list c.if-is_told.list _
          c.values.invariant c.values-test.true c.value-item.is (sym c.is_told.ensures ∙ w.if-is_told.true) (ap (λ v. resolved.Node (part.EnumValue v)) w.new.ensures) (w.list-is ∙ w.in_ok-push.ensures.ok)
      | else-is_told w ↦
          dropped (λ v. resolved.Node (part.EnumValue v)) (is_told_value c.args.include) c.args.values.now c.values.value-index c.value-item.result c.values.list c.if-is_told.list
          c.values.invariant c.values-test.true c.value-item.is (sym c.is_told.ensures ∙ w.if-is_told.false) w.list-is
    ]
