use Rattle.std.proofs.Common.{Some, map, ap, sym, ◌∙◌}
use Rattle.std.specs.List.{filter_map}
use Rattle.graphql_values.specs.declared.input_value.InputValue.TheVariants as value
use Rattle.graphql_written_out.specs.Filled.{filled, filled_item, filled_pair}
use Rattle.graphql_written_out.specs.FinalVariables.{value_in}
use Rattle.graphql_written_out.proofs.FilledEquations.{filled_list, filled_object}
use Rattle.graphql_written_out.proofs.argument_value.ArgumentValue.new.Goals as goal

pub returns-in-List : goal.returns-in-List
returns-in-List g c =
    let given = value_in c.args.variables.now in
    ap (λ xs. Some (value.List (map (filled_item given) xs))) c.as_slice.ensures ∙ sym (ap (filled given) c.in-List.is ∙ filled_list given c.in-List.items)

pub returns-in-Object : goal.returns-in-Object
returns-in-Object g c =
    let given = value_in c.args.variables.now in
    ap (λ ps. Some (value.Object (filter_map (filled_pair given) ps))) c.as_slice-in-Object.ensures ∙ sym (ap (filled given) c.in-Object.is ∙ filled_object given c.in-Object.pairs)
