use Rattle.std.proofs.Common.{◌∙◌, sym}
use Rattle.std.specs.Option.{option_map}
use Rattle.graphql_bundles.specs.Groups.{is_of}
use Rattle.graphql_bundles.proofs.ListLemmas.{filter-kept, filter-dropped}
use Rattle.graphql_bundles.proofs.heads.fields_in_part.Goals as goal
use Rattle.graphql_bundles.proofs.heads.fields_in_part.Goals.{then-is_in_part+in_ok-push, else-is_in_part}

pub loop-field-preserved : goal.loop-field-preserved
loop-field-preserved g c =
    elim c.if-is_in_part.branch [
      | then-is_in_part+in_ok-push w ↦ filter-kept (is_of (option_map (λ n. n.now) c.args.name)) c.args.group.now c.loop-field.field-index c.field-item.result
          c.loop-field.fields c.if-is_in_part.fields c.loop-field-test.true c.field-item.is c.loop-field.invariant (sym c.is_in_part.ensures ∙ w.if-is_in_part.true)
          (w.fields-is ∙ w.in_ok-push.ensures.ok)
      | else-is_in_part w ↦ filter-dropped (is_of (option_map (λ n. n.now) c.args.name)) c.args.group.now c.loop-field.field-index c.field-item.result
          c.loop-field.fields c.if-is_in_part.fields c.loop-field-test.true c.field-item.is c.loop-field.invariant (sym c.is_in_part.ensures ∙ w.if-is_in_part.false)
          w.fields-is
    ]
