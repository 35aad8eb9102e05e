-- What two parts of a selection set of a valid document give together (GraphQL October 2021, 5.3.2
-- Field Selection Merging, 6.3 Executing Selection Sets).
use Rattle.std.specs.Prelude.{◌≡◌, Bool, true, List, [], ◌∷◌, ◌++◌, Option, Some}
use Rattle.std.specs.List.{Contains}
use Rattle.graphql_names.specs.Names.{Bytes}
use Rattle.graphql_scalars.specs.ScalarAnswers.{ScalarAnswer}
use Rattle.graphql_values.specs.declared.input_value.InputValue.{InputValue}
use Rattle.graphql_values.specs.InputValues.{Placed}
use Rattle.graphql_tree.specs.Definitions.{fragments_listed}
use Rattle.graphql_tree.specs.declared.document.Definition.{Definition}
use Rattle.graphql_tree.specs.declared.document.Definition.TheVariants as definition
use Rattle.graphql_tree.specs.declared.document.Fragment.{Fragment}
use Rattle.graphql_tree.specs.declared.document.Operation.{Operation}
use Rattle.graphql_tree.specs.declared.document.OperationType.TheVariants as operation
use Rattle.graphql_tree.specs.declared.selection.Field.{Field}
use Rattle.graphql_tree.specs.declared.selection.InlineFragment.{InlineFragment}
use Rattle.graphql_tree.specs.declared.selection.Selection.{Selection}
use Rattle.graphql_tree.specs.declared.selection.Selection.TheVariants as selection
use Rattle.graphql_schema.specs.Scalars.{Scalars}
use Rattle.graphql_schema.specs.Declarations.{Declarations, declarations_of}
use Rattle.graphql_schema.specs.Executable.{is_executable}
use Rattle.graphql_schema.specs.Lookups.{own_name}
use Rattle.graphql_schema.specs.Schemas.{roots_of}
use Rattle.graphql_schema.specs.Subtypes.{is_named_subtype}
use Rattle.graphql_schema.specs.declared.meta.MetaType.{MetaType}
use Rattle.graphql_schema.specs.declared.schema.SchemaType.{SchemaType}
use Rattle.graphql_occurrences.specs.DeclaredLookups.{known, root_of}
use Rattle.graphql_written_out.specs.Written.{condition_of, written}
use Rattle.graphql_merging.specs.Members.{Scope, inside, scope_of}
use Rattle.graphql_arguments.specs.ArgumentValues.{Given}
use Rattle.graphql_arguments.specs.SameArguments.{SameArguments}
use Rattle.graphql_semantics.specs.Completion.{Members}
use Rattle.graphql_semantics.specs.Evaluation.{evaluate}
use Rattle.graphql_semantics.specs.Outcomes.{Outcome}
use Rattle.graphql_execution_walk.specs.Asked.{Resolves}
use Rattle.graphql_execution_walk.specs.Engines.{engine_over}
use Rattle.graphql_execution_walk.specs.FieldDeclarations.{is_possible_named}
use Rattle.graphql_execution_walk.specs.declared.asked.Asked.{Asked}
use Rattle.graphql_validation.specs.AllRules.{IsValid}
use Rattle.graphql_joins.specs.Laws.{FitTogether, KeepsSchema, OutcomesJoin}

-- a selection set stands in a document and selects from this type: that of an operation, of a
-- fragment, and in such a set that of a field and of an inline fragment (2.4 Selection Sets)
pub data IsSetOf {S C : Type 0} (schema : Declarations S C) (document : List (Definition S))
    : Scope S C → List (Selection S) → Type 0 where
  of_operation : (o : Placed (Operation S)) → Contains document (definition.Operation o)
      → IsSetOf schema document (root_of schema o.item.operation_type) o.item.selection_set
  of_fragment : (f : Placed (Fragment S)) → Contains document (definition.Fragment f)
      → IsSetOf schema document (known schema f.item.type_condition.item) f.item.selection_set
  of_field : (parent : MetaType S C) (set inner : List (Selection S)) (x : Placed (Field S))
      → IsSetOf schema document (Some parent) set → Contains set (selection.Field x)
      → x.item.selection_set ≡ Some inner
      → IsSetOf schema document (scope_of schema.types parent x.item.name.item) inner
  of_inline : (parent : MetaType S C) (set : List (Selection S)) (x : Placed (InlineFragment S))
      → IsSetOf schema document (Some parent) set → Contains set (selection.InlineFragment x)
      → IsSetOf schema document (inside schema.types (Some parent) (condition_of x.item))
      x.item.selection_set

-- the set of a query stands in its document, and selects from a type at which the root of queries
-- can stand (3.3.1 Root Operation Types)
abbrev pub QueriesStand : Type 0 → Type 0 → Type 0
QueriesStand S C =
    (schema : SchemaType S C) (document : List (Definition S)) (query : Placed (Operation S))
    → Contains document (definition.Operation query) → query.item.operation_type ≡ operation.Query
    → (parent : MetaType S C)
    × IsSetOf (declarations_of schema) document (Some parent) query.item.selection_set
    × (is_possible_named schema.types (own_name parent) schema.query ≡ true)

-- scalars that are the same answer the same: fields merge by the equality of scalars, and what
-- introspection tells goes by what they answer (3.5 Scalars)
abbrev pub EqualsAnswerAlike : {S : Type 0} → (S → S → Bool) → (S → ScalarAnswer) → Type 0
EqualsAnswerAlike {S} eq answer = (a b : S) → eq a b ≡ true → answer a ≡ answer b

-- what a resolver answers on a context depends on what argument values are, and not on their order
-- or places
abbrev pub RespectsArguments : {S N : Type 0} → (S → S → Bool) → Resolves S N → Type 0
RespectsArguments {S} {N} eq resolves =
    (node : N) (name : Bytes) (a b : Given S) → SameArguments eq a b
    → resolves node name a ≡ resolves node name b

-- `of_text`, `of_bool`, `answer`, `eq`: of the scalars
module _ {S : Type 0} (of_text : Bytes → S) (of_bool : Bool → S) (answer : S → ScalarAnswer)
    (eq : S → S → Bool) where
  -- what a request asks of a lawful resolver, and of a schema that can be executed, is sound
  abbrev pub RequestsAreSound : Type 0 → Type 0 → Type 0
  RequestsAreSound C N =
      (schema : SchemaType S C) → is_executable schema.types (roots_of schema) ≡ true
      → EqualsAnswerAlike eq answer
      → (given : Bytes → Option (InputValue S)) (type_of : N → Bytes) (resolves : Resolves S N)
      → RespectsArguments eq resolves
      → KeepsSchema eq schema.types
      (engine_over of_text of_bool answer schema given type_of resolves)

-- by what scalars mean
module _ {S C : Type 0} (scalars : Scalars S C) where
  abbrev IsValidFor : SchemaType S C → List (Definition S) → Type 0
  IsValidFor schema document =
      IsValid scalars (record { schema = declarations_of schema; document = document })

  -- over a schema that can be executed each set of a valid document can be selected from for each
  -- object type that is possible there
  abbrev pub DocumentSetsFit : Type 0
  DocumentSetsFit =
      (schema : SchemaType S C) → is_executable schema.types (roots_of schema) ≡ true
      → (document : List (Definition S)) → IsValidFor schema document
      → (parent : MetaType S C) (set : List (Selection S))
      → IsSetOf (declarations_of schema) document (Some parent) set
      → (object : Bytes) → is_possible_named schema.types (own_name parent) object ≡ true
      → FitTogether scalars.eq schema.types (is_named_subtype schema.types object)
      (record { scope = Some parent; tree = written (fragments_listed document) set } ∷ [])

module _ {S C : Type 0} (scalars : Scalars S C) where
  -- in a valid document, over a schema that can be executed: on a node, for an object type that is
  -- possible where they stand, and by any values of variables, selections one behind the other give
  -- the join of what each part gives
  abbrev pub PartsJoin : Type 0 → Type 0
  PartsJoin N =
      (schema : SchemaType S C) → is_executable schema.types (roots_of schema) ≡ true
      → EqualsAnswerAlike scalars.eq scalars.answer
      → (document : List (Definition S)) → IsValidFor scalars schema document
      → (parent : MetaType S C) (first second : List (Selection S))
      → IsSetOf (declarations_of schema) document (Some parent) (first ++ second)
      → (given : Bytes → Option (InputValue S)) (type_of : N → Bytes) (resolves : Resolves S N)
      → RespectsArguments scalars.eq resolves
      → (path : List Bytes) (object : Bytes) (node : Asked S N C)
      → is_possible_named schema.types (own_name parent) object ≡ true
      → (let gives : List (Selection S) → Outcome S (Members S) =
      λ selections. evaluate
      (engine_over scalars.of_text scalars.of_bool scalars.answer schema given type_of resolves)
      path object node (written (fragments_listed document) selections ∷ []) in
      OutcomesJoin (gives first) (gives second) (gives (first ++ second)))
