use Rattle.std.proofs.Common.{Some, refl, ap, sym, ◌∙◌, slice_set}
use Rattle.graphql_output_values.proofs.ObjectLemmas.{set_at, read_at}
use Rattle.graphql_output_values.proofs.object.Object.value_mut_at.Goals as goal

pub returns : goal.returns
returns g c =
    let fields = c.args.self.now.fields in
    let at = c.index_mut-field.ensures.value in (
      (refl, λ w i. record { fields = (ap (λ p. slice_set fields c.args.place (p.0, w)) at ∙ set_at fields c.args.place c.index_mut-field.result.now w c.requires) i }),
      record { writes_back = tt; value = read_at fields c.args.place c.index_mut-field.result.now c.requires ∙ ap (λ p. Some p.1) (sym at) },
    )
