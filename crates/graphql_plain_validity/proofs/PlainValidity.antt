-- The plain document of a valid document is valid: rule by rule.
use Rattle.std.proofs.Common.{◌≡◌, Bool, true, List}
use Rattle.std.specs.Cmp.{IsEquivalence}
use Rattle.std.specs.Option.{IsSome}
use Rattle.graphql_scalars.specs.ScalarAnswers.{boolean}
use Rattle.graphql_values.specs.SameValue.{SameValue}
use Rattle.graphql_values.specs.declared.input_value.InputValue.{InputValue}
use Rattle.graphql_tree.specs.declared.document.Definition.{Definition}
use Rattle.graphql_schema.specs.Scalars.{Scalars}
use Rattle.graphql_schema.specs.Declarations.{Declarations}
use Rattle.graphql_schema.specs.Directives.{has_standard_conditions}
use Rattle.graphql_occurrences.specs.DeclaredLookups.{root_of}
use Rattle.graphql_occurrences.specs.Occurrences.{occurrences}
use Rattle.graphql_visitors.specs.Subjects.{Subject}
use Rattle.graphql_rules.proofs.LawLemmas.{no_introspection}
use Rattle.graphql_rules_document.specs.Counted.{FieldTypesAreKnown}
use Rattle.graphql_validation.specs.Valid.{HasNoFault}
use Rattle.graphql_plain_validity.specs.PlainRequests.{IsPlainDocument}
use Rattle.graphql_plain_validity.specs.RuleLaws.{HasOneOperation}
use Rattle.graphql_plain_validity.specs.VariableLaws.{DefaultsAreConstant}
use Rattle.graphql_plain_validity.specs.Schemas.{TakesTrue}
use Rattle.graphql_plain_validity.proofs.AllowedUses.{uses-stay-allowed}
use Rattle.graphql_plain_validity.proofs.DefinedUses.{uses-stay-defined}
use Rattle.graphql_plain_validity.proofs.LiteralRules.{arguments-stay, defaults-stay}
use Rattle.graphql_plain_validity.proofs.LocalRules.{arguments-stay-declared, arguments-stay-distinct, arguments-stay-provided, conditions-stay-composite, declared-fields-stay, directives-are-placed, input-fields-stay-distinct, introspection-stays, leaves-stay, no-spread-is-left, types-stay-known, variables-stay-input}
use Rattle.graphql_plain_validity.proofs.NameRules.{one-operation-is-left}
use Rattle.graphql_plain_validity.proofs.VariableNames.{variable-names-stay}
use Rattle.graphql_plain_validity.proofs.SpreadRules.{spreads-stay-possible}
use Rattle.graphql_plain_validity.proofs.UsedVariables.{variables-stay-used}
use Rattle.graphql_plain_validity.proofs.MergingStays.{fields-stay-merging}
use Rattle.graphql_plain_validity.specs.Laws.{PlainDocumentsStayValid}

module _ {S C : Type 0} (scalars : Scalars S C) (laws : IsEquivalence scalars.eq) (answers : (b : Bool) → scalars.answer (scalars.of_bool b) ≡ boolean b)
    (respects : (c : C) (a b : InputValue S) → SameValue S scalars.eq a b → scalars.accepts c a → scalars.accepts c b)
    (schema : Declarations S C) (closed : FieldTypesAreKnown schema) where
  abbrev s : List (Definition S) → Subject S C
  s document = record { schema = schema; document = document }

  module _ (standard : has_standard_conditions schema.directives ≡ true) (takes : TakesTrue scalars.accepts schema scalars.of_bool) (document again : List (Definition S)) (is : IsPlainDocument scalars.answer scalars.of_bool document again)
      (root : IsSome (root_of schema is.operation.item.operation_type))
      (constant : DefaultsAreConstant document) where
    no-fault : HasNoFault scalars (s document) → HasNoFault scalars (s again)
    no-fault h =
        let one : HasOneOperation schema again =
        one-operation-is-left scalars.answer scalars.of_bool schema document again is in
        record {
          arguments_of_correct_type =
              arguments-stay scalars laws respects schema standard takes document again is h.arguments_of_correct_type;
          default_values_of_correct_type =
              defaults-stay scalars laws respects schema document again is h.default_values_of_correct_type;
          fields_on_correct_type =
              declared-fields-stay scalars.answer scalars.of_bool schema document again is h.fields_on_correct_type;
          scalar_leafs = leaves-stay scalars.answer scalars.of_bool schema document again is h.scalar_leafs;
          fragments_on_composite_types =
              conditions-stay-composite scalars.answer scalars.of_bool schema document again is h.fragments_on_composite_types;
          known_type_names =
              types-stay-known scalars.answer scalars.of_bool schema document again is h.known_type_names;
          variables_are_input_types =
              variables-stay-input scalars.answer scalars.of_bool schema document again is h.variables_are_input_types;
          known_fragment_names =
              no-spread-is-left scalars.answer scalars.of_bool schema document again is h.known_fragment_names;
          possible_fragment_spreads =
              spreads-stay-possible scalars.answer scalars.of_bool schema document again is h.possible_fragment_spreads;
          known_directives = directives-are-placed scalars.answer scalars.of_bool schema standard document again is;
          known_argument_names =
              arguments-stay-declared scalars.answer scalars.of_bool schema standard document again is h.known_argument_names;
          provided_non_null_arguments =
              arguments-stay-provided scalars.answer scalars.of_bool schema standard document again is h.provided_non_null_arguments;
          unique_argument_names =
              arguments-stay-distinct scalars.answer scalars.of_bool schema document again is h.unique_argument_names;
          unique_input_field_names =
              input-fields-stay-distinct scalars.answer scalars.of_bool schema document again is h.unique_input_field_names;
          in_scopes = record {
            unique_operation_names = one.unique_operation_names;
            lone_anonymous_operation = one.lone_anonymous_operation;
            unique_fragment_names = one.unique_fragment_names;
            no_unused_fragments = one.no_unused_fragments;
            no_fragment_cycles = one.no_fragment_cycles;
            unique_variable_names =
                variable-names-stay scalars.answer scalars.of_bool schema document again is h.in_scopes.unique_variable_names;
            no_undefined_variables =
                uses-stay-defined scalars.answer scalars.of_bool answers schema document again is constant h.in_scopes.no_undefined_variables;
            no_unused_variables =
                variables-stay-used schema scalars.answer scalars.of_bool closed document again is root h.fields_on_correct_type h.known_type_names;
            variables_in_allowed_position =
                uses-stay-allowed scalars.answer scalars.of_bool schema document again is h.in_scopes.variables_in_allowed_position;
          };
        }

  pub plain-documents-stay-valid : PlainDocumentsStayValid scalars schema
  plain-documents-stay-valid standard takes document again is root constant disabled h = record {
    valid = record {
      no_fault = no-fault standard takes document again is root constant h.valid.no_fault;
      fields_merge =
          fields-stay-merging scalars.eq laws scalars.answer scalars.of_bool schema document again is h.valid.fields_merge;
    };
    introspects_nothing = λ e.
        (no_introspection (s again) (occurrences schema again)).0
        (introspection-stays scalars.answer scalars.of_bool schema document again is
        ((no_introspection (s document) (occurrences schema document)).1
        (h.introspects_nothing e)));
  }
