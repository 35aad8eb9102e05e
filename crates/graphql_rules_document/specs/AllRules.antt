-- The errors of all rules for the definitions of a document, one rule after another (GraphQL
-- October 2021, 5.2 Operations, 5.5 Fragments, 5.8 Variables).
use Rattle.std.specs.Prelude.{List, ◌++◌}
use Rattle.graphql_schema.specs.declared.meta.MetaType.{MetaType}
use Rattle.graphql_rules_document.specs.Scopes.{OperationScope, Scopes}
pub use Rattle.graphql_rules_document.specs.Scopes.{FragmentScope, Spread, fragment_scope}
pub use Rattle.graphql_rules_document.specs.Scopes.{fragment_scopes, spread_at}
use Rattle.graphql_rules_document.specs.LoneAnonymousOperation.{lone_anonymous_operation_faults}
use Rattle.graphql_rules_document.specs.NoFragmentCycles.{no_fragment_cycles_faults}
use Rattle.graphql_rules_document.specs.NoUndefinedVariables.{no_undefined_variables_faults}
use Rattle.graphql_rules_document.specs.NoUnusedFragments.{no_unused_fragments_faults}
use Rattle.graphql_rules_document.specs.NoUnusedVariables.{no_unused_variables_faults}
use Rattle.graphql_rule_errors.specs.Places.{Places}
use Rattle.graphql_rules_document.specs.UniqueFragmentNames.{unique_fragment_names_faults}
use Rattle.graphql_rules_document.specs.UniqueOperationNames.{unique_operation_names_faults}
use Rattle.graphql_rules_document.specs.UniqueVariableNames.{unique_variable_names_faults}
use Rattle.graphql_rules_document.specs.VariablesInAllowedPosition.{variables_in_allowed_position_faults}

module _ {S : Type 0} where
  -- 5.2 Operations
  abbrev pub operation_places : List (OperationScope S) → Places
  operation_places operations =
      unique_operation_names_faults operations ++ lone_anonymous_operation_faults operations

  -- 5.5 Fragments
  abbrev pub fragment_places : List (OperationScope S) → List FragmentScope → Places
  fragment_places operations fragments = unique_fragment_names_faults fragments
      ++ no_unused_fragments_faults operations fragments ++ no_fragment_cycles_faults fragments

module _ {S C : Type 0} (types : List (MetaType S C)) where
  -- 5.8 Variables
  abbrev pub variable_places : List (OperationScope S) → List FragmentScope → Places
  variable_places operations fragments =
      unique_variable_names_faults operations ++ no_undefined_variables_faults operations fragments
      ++ no_unused_variables_faults operations fragments
      ++ variables_in_allowed_position_faults types operations fragments

  abbrev pub scope_places : List (OperationScope S) → List FragmentScope → Places
  scope_places operations fragments = operation_places operations
      ++ fragment_places operations fragments ++ variable_places operations fragments

  abbrev pub document_places : Scopes S → Places
  document_places s = scope_places s.operations s.fragments
