-- Rules on variables that find no fault in a document find none in its plain document (GraphQL
-- October 2021, 5.8 Variables).
use Rattle.std.specs.Prelude.{◌≡◌, Bool, List, [], Some, Result}
use Rattle.std.specs.List.{Contains}
use Rattle.std.specs.Option.{IsSome}
use Rattle.graphql_text.specs.declared.token.ScalarToken.{ScalarToken}
use Rattle.graphql_text.specs.declared.parse_error.ParseError.{ParseError}
use Rattle.graphql_scalars.specs.ScalarAnswers.{ScalarAnswer}
use Rattle.graphql_grammar.specs.Input.{Located}
use Rattle.graphql_language.specs.Documents.{DocumentOf}
use Rattle.graphql_values.specs.InputValues.{Placed}
use Rattle.graphql_values.specs.Variables.{IsConstant}
use Rattle.graphql_values.specs.declared.input_value.InputValue.{InputValue}
use Rattle.graphql_tree.specs.Documents.{variables_in}
use Rattle.graphql_tree.specs.Variables.{Variable}
use Rattle.graphql_tree.specs.declared.document.Definition.{Definition}
use Rattle.graphql_tree.specs.declared.document.Definition.TheVariants as definition
use Rattle.graphql_tree.specs.declared.document.Operation.{Operation}
use Rattle.graphql_schema.specs.Declarations.{Declarations}
use Rattle.graphql_occurrences.specs.DeclaredLookups.{root_of}
use Rattle.graphql_rules_document.specs.Scopes.{fragment_scopes, operation_scopes}
use Rattle.graphql_rules.specs.FieldsOnCorrectType.{fields_on_correct_type_faults}
use Rattle.graphql_rules.specs.KnownTypeNames.{known_type_names_faults}
use Rattle.graphql_rules_document.specs.NoUndefinedVariables.{no_undefined_variables_faults}
use Rattle.graphql_rules_document.specs.NoUnusedVariables.{no_unused_variables_faults}
use Rattle.graphql_rules_document.specs.UniqueVariableNames.{unique_variable_names_faults}
use Rattle.graphql_rules_document.specs.VariablesInAllowedPosition.{variables_in_allowed_position_faults}
use Rattle.graphql_plain_validity.specs.PlainRequests.{IsPlainDocument}
use Rattle.graphql_plain_validity.specs.RuleLaws.{IsSilent}

-- no variable stands in a default, as in each document that is parsed (2.10 Variables)
abbrev pub DefaultsAreConstant : {S : Type 0} → List (Definition S) → Type 0
DefaultsAreConstant {S} document =
    (o : Placed (Operation S)) → Contains document (definition.Operation o)
    → (v : Variable S) → Contains (variables_in o.item.variable_definitions) v
    → (default : Placed (InputValue S)) → v.1.default_value ≡ Some default → IsConstant default.item

-- a document that tokens spell has such defaults
abbrev pub SpelledDefaultsAreConstant : (S : Type 0) → (ScalarToken → Result S ParseError)
    → (Bool → S) → Type 0
SpelledDefaultsAreConstant S reads of_bool =
    (tokens : List Located) (document : List (Definition S))
    → DocumentOf S reads of_bool tokens document → DefaultsAreConstant document

-- `answer`: what a scalar answers; `of_bool`: the scalar of a boolean
module _ {S C : Type 0} (answer : S → ScalarAnswer) (of_bool : Bool → S)
    (schema : Declarations S C) where
  -- 5.8.1 Variable Uniqueness
  abbrev pub VariableNamesStayDistinct : Type 0
  VariableNamesStayDistinct =
      (document again : List (Definition S)) → IsPlainDocument answer of_bool document again
      → unique_variable_names_faults (operation_scopes schema document) ≡ []
      → unique_variable_names_faults (operation_scopes schema again) ≡ []

  -- 5.8.5 All Variable Usages Are Allowed
  abbrev pub UsesStayAllowed : Type 0
  UsesStayAllowed =
      (document again : List (Definition S)) → IsPlainDocument answer of_bool document again
      → variables_in_allowed_position_faults schema.types (operation_scopes schema document)
      (fragment_scopes schema document) ≡ []
      → variables_in_allowed_position_faults schema.types (operation_scopes schema again)
      (fragment_scopes schema again) ≡ []

  -- 5.8.3 All Variable Uses Defined
  abbrev pub UsesStayDefined : Type 0
  UsesStayDefined =
      (document again : List (Definition S)) → IsPlainDocument answer of_bool document again
      → DefaultsAreConstant document
      → no_undefined_variables_faults (operation_scopes schema document)
      (fragment_scopes schema document) ≡ []
      → no_undefined_variables_faults (operation_scopes schema again) (fragment_scopes schema again)
      ≡ []

  -- 5.8.4 All Variables Used: where the types around all fields are known, as they are where the
  -- operation's root is and `FieldsOnCorrectType` and `KnownTypeNames` find no fault
  abbrev pub VariablesStayUsed : Type 0
  VariablesStayUsed =
      (document again : List (Definition S)) (is : IsPlainDocument answer of_bool document again)
      → IsSome (root_of schema is.operation.item.operation_type)
      → IsSilent schema fields_on_correct_type_faults document
      → IsSilent schema known_type_names_faults document
      → no_unused_variables_faults (operation_scopes schema again) (fragment_scopes schema again)
      ≡ []
