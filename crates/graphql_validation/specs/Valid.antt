-- Documents in which no rule of the first stage finds a fault (GraphQL October 2021, 5 Validation).
use Rattle.graphql_schema.specs.Scalars.{Scalars}
use Rattle.std.specs.Prelude.{◌≡◌, []}
use Rattle.graphql_visitors.specs.Subjects.{Subject}
use Rattle.graphql_rules.specs.FieldsOnCorrectType.{fields_on_correct_type_faults}
use Rattle.graphql_rules.specs.FragmentsOnCompositeTypes.{fragments_on_composite_types_faults}
use Rattle.graphql_rules.specs.KnownArgumentNames.{known_argument_names_faults}
use Rattle.graphql_rules.specs.KnownDirectives.{known_directives_faults}
use Rattle.graphql_rules.specs.KnownFragmentNames.{known_fragment_names_faults}
use Rattle.graphql_rules.specs.KnownTypeNames.{known_type_names_faults}
use Rattle.graphql_rules.specs.PossibleFragmentSpreads.{possible_fragment_spreads_faults}
use Rattle.graphql_rules.specs.ProvidedNonNullArguments.{provided_non_null_arguments_faults}
use Rattle.graphql_rules.specs.ScalarLeafs.{scalar_leafs_faults}
use Rattle.graphql_rules.specs.UniqueArgumentNames.{unique_argument_names_faults}
use Rattle.graphql_rules.specs.UniqueInputFieldNames.{unique_input_field_names_faults}
use Rattle.graphql_rules.specs.VariablesAreInputTypes.{variables_are_input_types_faults}
use Rattle.graphql_rules_document.specs.LoneAnonymousOperation.{lone_anonymous_operation_faults}
use Rattle.graphql_rules_document.specs.NoFragmentCycles.{no_fragment_cycles_faults}
use Rattle.graphql_rules_document.specs.NoUndefinedVariables.{no_undefined_variables_faults}
use Rattle.graphql_rules_document.specs.NoUnusedFragments.{no_unused_fragments_faults}
use Rattle.graphql_rules_document.specs.NoUnusedVariables.{no_unused_variables_faults}
use Rattle.graphql_rules_document.specs.UniqueFragmentNames.{unique_fragment_names_faults}
use Rattle.graphql_rules_document.specs.UniqueOperationNames.{unique_operation_names_faults}
use Rattle.graphql_rules_document.specs.UniqueVariableNames.{unique_variable_names_faults}
use Rattle.graphql_rules_document.specs.VariablesInAllowedPosition.{variables_in_allowed_position_faults}
use Rattle.graphql_validation.specs.FirstStage.{ArgumentsTold, DefaultsTold, places_of, scopes}

-- no rule finds a fault among the operations and fragments of a document
pub record HasNoFaultInScopes {S C : Type 0} (subject : Subject S C) : Type 0 where
  pub unique_operation_names : unique_operation_names_faults (scopes subject).operations ≡ []
  pub lone_anonymous_operation : lone_anonymous_operation_faults (scopes subject).operations ≡ []
  pub unique_fragment_names : unique_fragment_names_faults (scopes subject).fragments ≡ []
  pub no_unused_fragments : no_unused_fragments_faults (scopes subject).operations
      (scopes subject).fragments ≡ []
  pub no_fragment_cycles : no_fragment_cycles_faults (scopes subject).fragments ≡ []
  pub unique_variable_names : unique_variable_names_faults (scopes subject).operations ≡ []
  pub no_undefined_variables : no_undefined_variables_faults (scopes subject).operations
      (scopes subject).fragments ≡ []
  pub no_unused_variables : no_unused_variables_faults (scopes subject).operations
      (scopes subject).fragments ≡ []
  pub variables_in_allowed_position : variables_in_allowed_position_faults subject.schema.types
      (scopes subject).operations (scopes subject).fragments ≡ []

-- nor at any one part of it: a member for each rule
pub record HasNoFault {S C : Type 0} (scalars : Scalars S C) (subject : Subject S C) : Type 0 where
  pub arguments_of_correct_type : ArgumentsTold scalars subject []
  pub default_values_of_correct_type : DefaultsTold scalars subject []
  pub fields_on_correct_type : places_of subject fields_on_correct_type_faults ≡ []
  pub scalar_leafs : places_of subject scalar_leafs_faults ≡ []
  pub fragments_on_composite_types : places_of subject fragments_on_composite_types_faults ≡ []
  pub known_type_names : places_of subject known_type_names_faults ≡ []
  pub variables_are_input_types : places_of subject variables_are_input_types_faults ≡ []
  pub known_fragment_names : places_of subject known_fragment_names_faults ≡ []
  pub possible_fragment_spreads : places_of subject possible_fragment_spreads_faults ≡ []
  pub known_directives : places_of subject known_directives_faults ≡ []
  pub known_argument_names : places_of subject known_argument_names_faults ≡ []
  pub provided_non_null_arguments : places_of subject provided_non_null_arguments_faults ≡ []
  pub unique_argument_names : places_of subject unique_argument_names_faults ≡ []
  pub unique_input_field_names : places_of subject unique_input_field_names_faults ≡ []
  pub in_scopes : HasNoFaultInScopes subject
