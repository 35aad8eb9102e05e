-- What a request asks of a lawful resolver is sound: its types are covariant, and the same
-- arguments are answered the same.
use Rattle.std.proofs.Common.{◌≡◌, refl, ◌∙◌, Bool, true, List, Option, Some, None}
use Rattle.std.specs.Cmp.{IsEquivalence}
use Rattle.std.specs.Option.{IfSome}
use Rattle.graphql_names.specs.Names.{Bytes}
use Rattle.graphql_scalars.specs.ScalarAnswers.{ScalarAnswer}
use Rattle.graphql_values.specs.declared.input_value.InputValue.{InputValue}
use Rattle.graphql_arguments.specs.ArgumentValues.{Given, argument_values}
use Rattle.graphql_arguments.specs.SameArguments.{SameArguments as SameUnderNames}
use Rattle.graphql_schema.specs.declared.meta.MetaType.{MetaType}
use Rattle.graphql_schema.specs.declared.schema.SchemaType.{SchemaType}
use Rattle.graphql_schema.specs.Executable.{is_executable}
use Rattle.graphql_schema.specs.Lookups.{type_named}
use Rattle.graphql_schema.specs.Schemas.{roots_of}
use Rattle.graphql_schema.specs.Subtypes.{is_named_subtype}
use Rattle.graphql_schema.specs.Types.{TypeOf}
use Rattle.graphql_written_out.specs.Trees.{Head}
use Rattle.graphql_merging.specs.Members.{scope_of}
use Rattle.graphql_merging.specs.Merging.{SameArguments}
use Rattle.graphql_merging.specs.Chosen.{IsTypeAbove}
use Rattle.graphql_merging.proofs.OneObject.{one-object}
use Rattle.graphql_execution_walk.specs.Asked.{Resolves, asked_answer}
use Rattle.graphql_execution_walk.specs.Engines.{arguments_over, engine_over}
use Rattle.graphql_execution_walk.specs.FieldDeclarations.{are_possible, declared_arguments, declared_type}
use Rattle.graphql_execution_walk.specs.FieldDeclarations.{is_possible_named}
use Rattle.graphql_execution_walk.specs.declared.asked.Asked.{Asked}
use Rattle.graphql_joins.specs.Laws.{KeepsSchema}
use Rattle.graphql_joins.specs.RequestLaws.{EqualsAnswerAlike, RespectsArguments}
use Rattle.graphql_joins.specs.Typed.{HasDistinctArguments}
use Rattle.graphql_joins.proofs.Covariance.{covariant, possible-below}
use Rattle.graphql_joins.proofs.SameArguments.{same-values}
use Rattle.graphql_joins.proofs.AnsweredAlike.{asked-same}

module _ {S C : Type 0} (schema : SchemaType S C)
    (executable : is_executable schema.types (roots_of schema) ≡ true) where
  abbrev types : List (MetaType S C)
  types = schema.types

  -- an object that can stand at a type is below it
  pub can-be-below : (at concrete : Bytes) → is_possible_named types at concrete ≡ true
      → is_named_subtype types concrete at ≡ true
  can-be-below at concrete possible = cases (type_named types at) (type_named types concrete) refl refl possible
    where
      cases : (a o : Option (MetaType S C)) → type_named types at ≡ a → type_named types concrete ≡ o
          → are_possible a o ≡ true → is_named_subtype types concrete at ≡ true
      cases None o ea eo p = cc
      cases (Some a) None ea eo p = cc
      cases (Some a) (Some o) ea eo p =
          possible-below types (roots_of schema) schema.faultless executable concrete at o a eo ea p

  types-covariant : (object concrete name : Bytes) (parent : MetaType S C) (type : TypeOf)
      → IsTypeAbove types (is_named_subtype types object) parent → declared_type types object name ≡ Some type
      → is_possible_named types type.name concrete ≡ true
      → IfSome (scope_of types parent name) (IsTypeAbove types (is_named_subtype types concrete))
  types-covariant object concrete name parent type above declared possible =
      cases (type_named types type.name) (type_named types concrete) refl refl possible
    where
      cases : (a o : Option (MetaType S C)) → type_named types type.name ≡ a → type_named types concrete ≡ o
          → are_possible a o ≡ true
          → IfSome (scope_of types parent name) (IsTypeAbove types (is_named_subtype types concrete))
      cases None o ea eo p = cc
      cases (Some a) None ea eo p = cc
      cases (Some a) (Some o) ea eo p =
          covariant types (roots_of schema) schema.faultless executable object concrete name parent type a o
          above declared ea eo p

  module _ {N : Type 0} (of_text : Bytes → S) (of_bool : Bool → S) (answer : S → ScalarAnswer) (eq : S → S → Bool)
      (laws : IsEquivalence eq) (answers_alike : EqualsAnswerAlike eq answer)
      (given : Bytes → Option (InputValue S)) (type_of : N → Bytes) (resolves : Resolves S N)
      (respects : RespectsArguments eq resolves) where
    answered-alike : (node : Asked S N C) (object : Bytes) (x y : Head S) → HasDistinctArguments x
        → HasDistinctArguments y → x.name ≡ y.name → SameArguments eq x.arguments y.arguments
        → asked_answer of_text of_bool answer schema resolves node object x.name (arguments_over types given object x)
        ≡ asked_answer of_text of_bool answer schema resolves node object y.name (arguments_over types given object y)
    answered-alike node object x y dx dy name same =
        let a : Given S = argument_values given (declared_arguments types object x.name) x.arguments in
        let b : Given S = argument_values given (declared_arguments types object x.name) y.arguments in
        let s : SameUnderNames eq a b =
        same-values eq laws given (declared_arguments types object x.name) x.arguments y.arguments dx dy same in
        asked-same of_text of_bool answer eq answers_alike schema a b s resolves
        (λ n f. respects n f a b s) node object x.name
        ∙ (λ i. asked_answer of_text of_bool answer schema resolves node object (name i)
        (argument_values given (declared_arguments types object (name i)) y.arguments))

    pub sound-engine : KeepsSchema eq types (engine_over of_text of_bool answer schema given type_of resolves)
    unfolding engine_over
    sound-engine = record {
      one_object = one-object types;
      covariant = types-covariant;
      alike = answered-alike;
    }
