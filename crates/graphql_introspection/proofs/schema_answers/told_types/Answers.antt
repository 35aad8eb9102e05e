use Rattle.std.proofs.Common.{ap, map, sym, ◌∙◌}
use Rattle.std.proofs.lemmas.List.{map_push}
use Rattle.graphql_introspection.specs.Told.{is_told_type}
use Rattle.graphql_introspection.proofs.Filtering.{dropped_view, kept_view}
use Rattle.graphql_introspection.proofs.schema_answers.told_types.Goals.{then-is_told_type+in_ok-push, else-is_told_type}
use Rattle.graphql_introspection.proofs.schema_answers.told_types.Goals as goal

pub types-preserved : goal.types-preserved
types-preserved g c =
    elim c.if-is_told_type.branch [
      | then-is_told_type+in_ok-push w ↦
          kept_view (λ m. m.now) is_told_type c.args.types.now c.types.meta-index c.meta-item.result (map (λ m. m.now) c.types.told) (map (λ m. m.now) c.if-is_told_type.told)
          c.types.invariant c.types-test.true c.meta-item.is (sym c.is_told_type.ensures ∙ w.if-is_told_type.true)
          (ap (map (λ m. m.now)) (w.told-is ∙ w.in_ok-push.ensures.ok) ∙ map_push (λ m. m.now) c.types.told c.meta-item.result)
      | else-is_told_type w ↦
          dropped_view (λ m. m.now) is_told_type c.args.types.now c.types.meta-index c.meta-item.result (map (λ m. m.now) c.types.told) (map (λ m. m.now) c.if-is_told_type.told)
          c.types.invariant c.types-test.true c.meta-item.is (sym c.is_told_type.ensures ∙ w.if-is_told_type.false) (ap (map (λ m. m.now)) w.told-is)
    ]
