use Rattle.graphql_validation.specs.FirstStage.{parts}
use Rattle.graphql_law_rows.proofs.rules.faultless_documents_keep_the_rules.Goals as goal

pub returns : goal.returns
returns g c = λ subject.
    let its_parts = parts subject in
    let in_scopes = c.faultless_scopes_keep_the_rules.ensures subject in
    let declared = c.fields_are_declared.ensures subject its_parts in
    let selected = c.leaves_have_no_sets.ensures subject its_parts in
    let argument_names = c.arguments_are_declared.ensures subject its_parts in
    let distinct = c.arguments_are_distinct.ensures subject its_parts in
    let provided = c.arguments_are_provided.ensures subject its_parts in
    let known = c.named_types_are_known.ensures subject its_parts in
    let composite = c.conditions_are_composite.ensures subject its_parts in
    let input = c.variables_are_of_input_types.ensures subject its_parts in
    let spreads = c.spread_fragments_are_known.ensures subject its_parts in
    let possible = c.spreads_are_possible.ensures subject its_parts in
    let placed = c.directives_may_stand.ensures subject its_parts in
    let input_fields = c.input_fields_are_distinct.ensures subject its_parts in
    let arguments = c.declared_arguments_conform.ensures subject its_parts in
    let defaults = c.defaults_conform.ensures subject its_parts in (
      λ h. record {
        scopes_keep = in_scopes.0 h.in_scopes;
        parts_keep = record {
          fields_declared = declared.0 h.fields_on_correct_type;
          sets_fit = selected.0 h.scalar_leafs;
          arguments_declared = argument_names.0 h.known_argument_names;
          arguments_distinct = distinct.0 h.unique_argument_names;
          arguments_provided = provided.0 h.provided_non_null_arguments;
          conditions_known = (known.0 h.known_type_names).1;
          conditions_composite = composite.0 h.fragments_on_composite_types;
          spreads_known = spreads.0 h.known_fragment_names;
          spreads_possible = (possible.0 h.possible_fragment_spreads).0;
          inlines_possible = (possible.0 h.possible_fragment_spreads).1;
          directives_placed = placed.0 h.known_directives;
          variable_types_known = (known.0 h.known_type_names).0;
          variable_types_input = input.0 h.variables_are_input_types;
        };
        values_keep = record {
          arguments_fit = arguments.0 h.arguments_of_correct_type;
          defaults_fit = defaults.0 h.default_values_of_correct_type;
          input_fields_distinct = input_fields.0 h.unique_input_field_names;
        };
      },
      λ k. record {
        arguments_of_correct_type = arguments.1 k.values_keep.arguments_fit;
        default_values_of_correct_type = defaults.1 k.values_keep.defaults_fit;
        fields_on_correct_type = declared.1 k.parts_keep.fields_declared;
        scalar_leafs = selected.1 k.parts_keep.sets_fit;
        fragments_on_composite_types = composite.1 k.parts_keep.conditions_composite;
        known_type_names = known.1 (k.parts_keep.variable_types_known, k.parts_keep.conditions_known);
        variables_are_input_types = input.1 k.parts_keep.variable_types_input;
        known_fragment_names = spreads.1 k.parts_keep.spreads_known;
        possible_fragment_spreads = possible.1 (k.parts_keep.spreads_possible, k.parts_keep.inlines_possible);
        known_directives = placed.1 k.parts_keep.directives_placed;
        known_argument_names = argument_names.1 k.parts_keep.arguments_declared;
        provided_non_null_arguments = provided.1 k.parts_keep.arguments_provided;
        unique_argument_names = distinct.1 k.parts_keep.arguments_distinct;
        unique_input_field_names = input_fields.1 k.values_keep.input_fields_distinct;
        in_scopes = in_scopes.1 k.scopes_keep;
      },
    )
