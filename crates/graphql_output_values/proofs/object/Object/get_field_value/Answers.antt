use Rattle.std.proofs.Common.{sym, ◌∙◌}
use Rattle.graphql_output_values.proofs.ObjectLemmas.{value_at, value_nowhere}
use Rattle.graphql_output_values.proofs.object.Object.get_field_value.Goals as goal

pub returns-in-Some : goal.returns-in-Some
returns-in-Some g c = let at = value_at c.args.key.now c.args.self.now.fields c.in-Some.place c.index-as_slice-place.result (sym c.place_of.ensures ∙ c.in-Some.is) in cc

pub returns-in-None : goal.returns-in-None
returns-in-None g c = sym (value_nowhere c.args.key.now c.args.self.now.fields (sym c.place_of.ensures ∙ c.in-None.is))
