use Rattle.std.proofs.Common.{ap, sym, ◌∙◌}
use Rattle.graphql_field_results.specs.declared.resolved.Resolved.TheVariants as resolved
use Rattle.graphql_introspection.specs.declared.part.SchemaPart.TheVariants as part
use Rattle.graphql_introspection.specs.Told.{is_told_field}
use Rattle.graphql_introspection.proofs.Filtering.{dropped, kept}
use Rattle.graphql_introspection.proofs.nodes.fields.Goals.{then-is_told_field+in_ok-push, else-is_told_field}
use Rattle.graphql_introspection.proofs.nodes.fields.Goals as goal

pub fields-preserved : goal.fields-preserved
fields-preserved g c =
    elim c.if-is_told_field.branch [
      | then-is_told_field+in_ok-push w ↦
          kept (λ f. resolved.Node (part.Field f)) (is_told_field c.args.include) c.args.fields.now c.fields.field-index c.field-item.result c.fields.list c.if-is_told_field.list _
          c.fields.invariant c.fields-test.true c.field-item.is (sym c.is_told_field.ensures ∙ w.if-is_told_field.true) (ap (λ f. resolved.Node (part.Field f)) w.new.ensures) (w.list-is ∙ w.in_ok-push.ensures.ok)
      | else-is_told_field w ↦
          dropped (λ f. resolved.Node (part.Field f)) (is_told_field c.args.include) c.args.fields.now c.fields.field-index c.field-item.result c.fields.list c.if-is_told_field.list
          c.fields.invariant c.fields-test.true c.field-item.is (sym c.is_told_field.ensures ∙ w.if-is_told_field.false) w.list-is
    ]
