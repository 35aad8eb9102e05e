use Rattle.std.proofs.Common.{◌≡◌, Some, inl, refl, sym, ◌∙◌}
use Rattle.graphql_output_values.proofs.ObjectLemmas.{place, set_placed, read_placed, value_nowhere}
use Rattle.graphql_output_values.proofs.object.Object.get_mut_field_value.Goals as goal

pub returns-in-Some : goal.returns-in-Some
returns-in-Some g c =
    let key = c.args.key.now in
    let fields = c.args.self.now.fields in
    let at : place key fields ≡ Some c.in-Some.place = sym c.place_of.ensures ∙ c.in-Some.is in (
      λ i. inl (c.value_mut_at.result.ghost_name, λ w. record { fields = set_placed key fields w c.in-Some.place at i }),
      sym (read_placed key fields c.in-Some.place at ∙ c.value_mut_at.ensures.value),
    )

pub returns-in-None : goal.returns-in-None
returns-in-None g c = (refl, sym (value_nowhere c.args.key.now c.args.self.now.fields (sym c.place_of.ensures ∙ c.in-None.is)))
