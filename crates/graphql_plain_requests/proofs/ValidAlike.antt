-- Of documents that differ in places alone the one is valid where the other is: rule by rule.
use Rattle.std.proofs.Common.{◌≡◌, List}
use Rattle.std.specs.Cmp.{IsEquivalence}
use Rattle.graphql_values.specs.SameValue.{SameValue}
use Rattle.graphql_values.specs.declared.input_value.InputValue.{InputValue}
use Rattle.graphql_tree.specs.Unlocated.{unlocated_document}
use Rattle.graphql_tree.specs.declared.document.Definition.{Definition}
use Rattle.graphql_schema.specs.Scalars.{Scalars}
use Rattle.graphql_schema.specs.Declarations.{Declarations}
use Rattle.graphql_occurrences.specs.Occurrences.{occurrences}
use Rattle.graphql_visitors.specs.Subjects.{Subject}
use Rattle.graphql_rules.proofs.LawLemmas.{no_introspection}
use Rattle.graphql_rules_document.specs.LoneAnonymousOperation.{lone_anonymous_operation_faults}
use Rattle.graphql_rules_document.specs.NoFragmentCycles.{no_fragment_cycles_faults}
use Rattle.graphql_rules_document.specs.NoUndefinedVariables.{no_undefined_variables_faults}
use Rattle.graphql_rules_document.specs.NoUnusedFragments.{no_unused_fragments_faults}
use Rattle.graphql_rules_document.specs.NoUnusedVariables.{no_unused_variables_faults}
use Rattle.graphql_rules_document.specs.UniqueFragmentNames.{unique_fragment_names_faults}
use Rattle.graphql_rules_document.specs.UniqueOperationNames.{unique_operation_names_faults}
use Rattle.graphql_rules_document.specs.UniqueVariableNames.{unique_variable_names_faults}
use Rattle.graphql_rules_document.specs.VariablesInAllowedPosition.{variables_in_allowed_position_faults}
use Rattle.graphql_validation.specs.Valid.{HasNoFault, HasNoFaultInScopes}
use Rattle.graphql_plain_requests.specs.Laws.{AreValidAlike}
use Rattle.graphql_plain_requests.proofs.LiteralsAlike.{arguments-conform, defaults-conform}
use Rattle.graphql_plain_requests.proofs.LocalRules as rules
use Rattle.graphql_plain_requests.proofs.MergingAlike.{merging-alike}
use Rattle.graphql_plain_requests.proofs.ScopeRules.{anonymous-erased, cycles-erased, disallowed-erased, fragments-repeated, never-erased, operations-repeated, scopes-alike, undefined-erased, unused-variables-erased, variables-repeated}

module _ {S C : Type 0} (scalars : Scalars S C) (laws : IsEquivalence scalars.eq)
    (respects : (c : C) (a b : InputValue S) → SameValue S scalars.eq a b → scalars.accepts c a → scalars.accepts c b)
    (schema : Declarations S C) (document again : List (Definition S))
    (same : unlocated_document document ≡ unlocated_document again) where
  abbrev s : List (Definition S) → Subject S C
  s d = record { schema = schema; document = d }

  scopes-stay : HasNoFaultInScopes (s document) → HasNoFaultInScopes (s again)
  scopes-stay h = record {
    unique_operation_names =
        scopes-alike schema document again same (λ os fs. unique_operation_names_faults os)
        (λ os fs. operations-repeated os) h.unique_operation_names;
    lone_anonymous_operation =
        scopes-alike schema document again same (λ os fs. lone_anonymous_operation_faults os)
        (λ os fs. anonymous-erased os) h.lone_anonymous_operation;
    unique_fragment_names =
        scopes-alike schema document again same (λ os fs. unique_fragment_names_faults fs)
        (λ os fs. fragments-repeated fs) h.unique_fragment_names;
    no_unused_fragments = scopes-alike schema document again same no_unused_fragments_faults never-erased
        h.no_unused_fragments;
    no_fragment_cycles =
        scopes-alike schema document again same (λ os fs. no_fragment_cycles_faults fs)
        (λ os fs. cycles-erased fs) h.no_fragment_cycles;
    unique_variable_names =
        scopes-alike schema document again same (λ os fs. unique_variable_names_faults os)
        (λ os fs. variables-repeated os) h.unique_variable_names;
    no_undefined_variables = scopes-alike schema document again same no_undefined_variables_faults
        undefined-erased h.no_undefined_variables;
    no_unused_variables = scopes-alike schema document again same no_unused_variables_faults
        unused-variables-erased h.no_unused_variables;
    variables_in_allowed_position =
        scopes-alike schema document again same (variables_in_allowed_position_faults schema.types)
        (disallowed-erased schema.types) h.variables_in_allowed_position;
  }

  no-fault : HasNoFault scalars (s document) → HasNoFault scalars (s again)
  no-fault h = record {
    arguments_of_correct_type = arguments-conform scalars laws respects schema document
        again same h.arguments_of_correct_type;
    default_values_of_correct_type = defaults-conform scalars laws respects schema
        document again same h.default_values_of_correct_type;
    fields_on_correct_type = rules.fields-alike schema document again same h.fields_on_correct_type;
    scalar_leafs = rules.leaves-alike schema document again same h.scalar_leafs;
    fragments_on_composite_types = rules.conditions-alike schema document again same
        h.fragments_on_composite_types;
    known_type_names = rules.types-alike schema document again same h.known_type_names;
    variables_are_input_types = rules.input-types-alike schema document again same
        h.variables_are_input_types;
    known_fragment_names = rules.fragments-alike schema document again same h.known_fragment_names;
    possible_fragment_spreads = rules.spreads-alike schema document again same
        h.possible_fragment_spreads;
    known_directives = rules.directives-alike schema document again same h.known_directives;
    known_argument_names = rules.argument-names-alike schema document again same h.known_argument_names;
    provided_non_null_arguments = rules.required-alike schema document again same h.provided_non_null_arguments;
    unique_argument_names = rules.unique-arguments-alike schema document again same
        h.unique_argument_names;
    unique_input_field_names = rules.unique-fields-alike schema document again same
        h.unique_input_field_names;
    in_scopes = scopes-stay h.in_scopes;
  }

pub valid-alike : {S C : Type 0} (scalars : Scalars S C) (laws : IsEquivalence scalars.eq)
    → ((c : C) (a b : InputValue S) → SameValue S scalars.eq a b → scalars.accepts c a → scalars.accepts c b)
    → (schema : Declarations S C) → AreValidAlike scalars schema
valid-alike scalars laws respects schema document again same disabled h = record {
  valid = record {
    no_fault = no-fault scalars laws respects schema document again same h.valid.no_fault;
    fields_merge = merging-alike schema scalars.eq laws document again same h.valid.fields_merge;
  };
  introspects_nothing = λ e.
      (no_introspection (record { schema = schema; document = again }) (occurrences schema again)).0
      (rules.introspection-alike schema document again same
      ((no_introspection (record { schema = schema; document = document })
      (occurrences schema document)).1 (h.introspects_nothing e)));
}
