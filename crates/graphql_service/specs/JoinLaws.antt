-- A selection set means what its parts mean together (GraphQL October 2021, 5.3.2 Field Selection
-- Merging, 6.3 Executing Selection Sets, 6.4.3 Value Completion, MergeSelectionSets).
use Rattle.std.specs.Prelude.{◌≡◌, true, List, [], ◌∷◌, ◌++◌, Option, Some, None, Ok}
use Rattle.graphql_names.specs.Names.{Bytes}
use Rattle.graphql_values.specs.InputValues.{Placed}
use Rattle.graphql_values.specs.declared.input_value.InputValue.{InputValue}
use Rattle.graphql_output_values.specs.declared.value.Value.{Value}
use Rattle.graphql_tree.specs.Definitions.{fragments_listed}
use Rattle.graphql_tree.specs.declared.document.Definition.{Definition}
use Rattle.graphql_tree.specs.declared.document.Operation.{Operation}
use Rattle.graphql_tree.specs.declared.document.OperationType.TheVariants as kind
use Rattle.graphql_tree.specs.declared.selection.Selection.{Selection}
use Rattle.graphql_schema.specs.Declarations.{declarations_of}
use Rattle.graphql_schema.specs.Lookups.{own_name}
use Rattle.graphql_schema.specs.declared.meta.MetaType.{MetaType}
use Rattle.graphql_schema.specs.declared.root_node.RootNode.{RootNode}
use Rattle.graphql_written_out.specs.Written.{written}
use Rattle.graphql_semantics.specs.Evaluation.{evaluate}
use Rattle.graphql_execution_walk.specs.Engines.{engine_over}
use Rattle.graphql_execution_walk.specs.FieldDeclarations.{is_possible_named}
use Rattle.graphql_execution_walk.specs.declared.asked.Asked.{Asked}
use Rattle.graphql_requests.specs.Operations.{chosen}
use Rattle.graphql_schema.specs.Scalars.{Scalars}
use Rattle.graphql_validation.specs.AllRules.{IsValid}
use Rattle.graphql_executor.specs.Executed.{data_of, runs}
use Rattle.graphql_executor.specs.Resolvers.{Resolver}
use Rattle.graphql_joins.specs.Joins.{IsJoin}
use Rattle.graphql_joins.specs.RequestLaws.{EqualsAnswerAlike, IsSetOf}

-- by what scalars mean, and by the root node
module _ {S C : Type 0} (s : Scalars S C) (root : RootNode S C) where
  abbrev IsValidHere : List (Definition S) → Type 0
  IsValidHere document =
      IsValid s (record { schema = declarations_of root.schema; document = document })

  -- where selections stand one behind the other in a set of a valid document, the data that both
  -- give on a node, for an object type that is possible there, are the join of the data that each
  -- part gives there, by the same final values of variables; scalars that are the same are to
  -- answer the same
  abbrev pub JoinOfTwoSets : {N X : Type 0} → Resolver S N X → Type 0
  JoinOfTwoSets {N} {X} r =
      EqualsAnswerAlike s.eq s.answer
      → (document : List (Definition S)) → IsValidHere document
      → (parent : MetaType S C) (first second : List (Selection S))
      → IsSetOf (declarations_of root.schema) document (Some parent) (first ++ second)
      → (given : Bytes → Option (InputValue S)) (context : X) (object : Bytes) (node : Asked S N C)
      → is_possible_named root.schema.types (own_name parent) object ≡ true
      → (let engine = engine_over s.of_text s.of_bool s.answer root.schema given
      (r.type_of context) (r.answer context) in
      let answered : List (Selection S) → Value S =
      λ set. data_of
      (evaluate engine [] object node (written (fragments_listed document) set ∷ [])) in
      IsJoin (answered first) (answered second) (answered (first ++ second)))

  -- so it is with a query of a valid document: executed as it is, it is answered the join of what
  -- it is answered with a beginning of its selections alone and with the rest alone
  abbrev pub PartsOfQueriesJoin : {N X : Type 0} → Resolver S N X → Type 0
  PartsOfQueriesJoin {N} {X} r =
      EqualsAnswerAlike s.eq s.answer
      → (document : List (Definition S)) → IsValidHere document
      → (name : Option Bytes) (query : Placed (Operation S)) → chosen name document ≡ Ok query
      → query.item.operation_type ≡ kind.Query
      → (first second : List (Selection S)) → query.item.selection_set ≡ first ++ second
      → (given : Bytes → Option (InputValue S)) (context : X)
      → (let answered : List (Selection S) → Value S =
      λ set. data_of (runs s root.schema r document given
      (record query.item { selection_set = set }) None context).outcome in
      IsJoin (answered first) (answered second) (answered query.item.selection_set))
