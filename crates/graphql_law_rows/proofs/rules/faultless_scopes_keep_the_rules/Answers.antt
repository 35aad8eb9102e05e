use Rattle.graphql_validation.specs.FirstStage.{scopes}
use Rattle.graphql_law_rows.specs.KeptRules.{IsAllowed, IsDefined}
use Rattle.graphql_law_rows.proofs.KeptRules.{each_use, each_used}
use Rattle.graphql_law_rows.proofs.rules.faultless_scopes_keep_the_rules.Goals as goal

pub returns : goal.returns
returns g c = λ subject.
    let operations = (scopes subject).operations in
    let fragments = (scopes subject).fragments in
    let reached = c.reached_uses_stand_in_what_is_reached.ensures in
    let operation_names = c.unique_operations_have_distinct_names.ensures operations in
    let alone = c.lone_anonymous_operation_stands_alone.ensures operations in
    let fragment_names = c.unique_fragments_have_distinct_names.ensures fragments in
    let all_reached = c.used_fragments_are_reached.ensures operations fragments in
    let cycles = c.fragments_without_cycles_never_reach_themselves.ensures fragments in
    let variable_names = c.unique_variables_have_distinct_names.ensures operations in
    let defined = c.defined_uses_have_definitions.ensures operations fragments in
    let used = c.used_variables_have_uses.ensures operations fragments in
    let allowed = c.uses_in_allowed_position_are_allowed.ensures subject.schema.types operations fragments in
    let each_defined = each_use reached fragments IsDefined operations in
    let uses_stand = each_used reached fragments operations in
    let each_allowed = each_use reached fragments (IsAllowed subject) operations in (
      λ h. record {
        operation_names = operation_names.0 h.unique_operation_names;
        anonymous_alone = alone.0 h.lone_anonymous_operation;
        fragment_names = fragment_names.0 h.unique_fragment_names;
        fragments_reached = all_reached.0 h.no_unused_fragments;
        no_cycles = cycles.0 h.no_fragment_cycles;
        variable_names = variable_names.0 h.unique_variable_names;
        uses_defined = each_defined.0 (defined.0 h.no_undefined_variables);
        variables_used = uses_stand.0 (used.0 h.no_unused_variables);
        uses_allowed = each_allowed.0 (allowed.0 h.variables_in_allowed_position);
      },
      λ k. record {
        unique_operation_names = operation_names.1 k.operation_names;
        lone_anonymous_operation = alone.1 k.anonymous_alone;
        unique_fragment_names = fragment_names.1 k.fragment_names;
        no_unused_fragments = all_reached.1 k.fragments_reached;
        no_fragment_cycles = cycles.1 k.no_cycles;
        unique_variable_names = variable_names.1 k.variable_names;
        no_undefined_variables = defined.1 (each_defined.1 k.uses_defined);
        no_unused_variables = used.1 (uses_stand.1 k.variables_used);
        variables_in_allowed_position = allowed.1 (each_allowed.1 k.uses_allowed);
      },
    )
