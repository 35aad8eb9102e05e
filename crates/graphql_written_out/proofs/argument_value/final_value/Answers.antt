use Rattle.std.proofs.Common.{ap, sym, ◌∙◌}
use Rattle.graphql_values.specs.declared.input_value.InputValue.TheVariants as value
use Rattle.graphql_written_out.proofs.FilledEquations.{items_stay, fields_stay}
use Rattle.graphql_written_out.proofs.argument_value.final_value.Goals as goal

pub returns-in-List : goal.returns-in-List
returns-in-List g c = ap value.List (items_stay c.as_slice.result.now ∙ c.as_slice.ensures) ∙ sym c.in-List.is

pub returns-in-Object : goal.returns-in-Object
returns-in-Object g c = ap value.Object (fields_stay c.as_slice-in-Object.result.now ∙ c.as_slice-in-Object.ensures) ∙ sym c.in-Object.is
