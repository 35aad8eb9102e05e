-- The data of a selection set are those of its parts joined.
use Rattle.std.proofs.Common.{◌≡◌, sym, subst, true, List, [], ◌++◌, Option, Some, None}
use Rattle.std.specs.Prelude.{unwrap_or}
use Rattle.std.specs.Option.{option_map}
use Rattle.graphql_output_values.specs.declared.value.Value.{Value}
use Rattle.graphql_output_values.specs.declared.value.Value.TheVariants as value
use Rattle.graphql_tree.specs.Documents.{variables_in}
use Rattle.graphql_tree.specs.declared.selection.Selection.{Selection}
use Rattle.graphql_written_out.specs.FinalValues.{final_value}
use Rattle.graphql_schema.specs.Declarations.{declarations_of}
use Rattle.graphql_schema.specs.Executable.{is_executable}
use Rattle.graphql_schema.specs.Schemas.{roots_of}
use Rattle.graphql_schema.specs.declared.root_node.RootNode.{RootNode}
use Rattle.graphql_semantics.specs.Completion.{Members, object_members}
use Rattle.graphql_execution_walk.specs.declared.asked.Asked.TheVariants as asked
use Rattle.graphql_schema.specs.Scalars.{Scalars}
use Rattle.graphql_requests.proofs.ChosenOperations.{chosen-in}
use Rattle.graphql_executor.specs.Executed.{data_of, runs}
use Rattle.graphql_executor.specs.Resolvers.{Resolver}
use Rattle.graphql_joins.specs.Joins.{IsJoin, null_first, null_second, objects}
use Rattle.graphql_joins.specs.Joins.{MembersJoin, JoinsIfThere, none_first, none_second, both_there}
use Rattle.graphql_joins.specs.RequestLaws.{IsSetOf, PartsJoin, QueriesStand, RespectsArguments}
use Rattle.graphql_service.specs.JoinLaws.{JoinOfTwoSets, PartsOfQueriesJoin}

module _ {S : Type 0} where
  abbrev shown : Option (Members S) → Value S
  shown o = unwrap_or (option_map object_members o) value.Null

  data-join : {x y z : Option (Members S)} → JoinsIfThere MembersJoin x y z → IsJoin (shown x) (shown y) (shown z)
  data-join (none_first y) = null_first (shown y)
  data-join (none_second x) = null_second (shown x)
  data-join (both_there x y z j) = objects x y z j

module _ {S C N X : Type 0} (s : Scalars S C) (root : RootNode S C) (r : Resolver S N X) where
  pub join-of-two-sets : is_executable root.schema.types (roots_of root.schema) ≡ true
      → PartsJoin s N
      → ((context : X) → RespectsArguments s.eq (r.answer context)) → JoinOfTwoSets s root r
  join-of-two-sets executable parts respects alike document valid parent first second stand given context object node
      possible =
      data-join (parts root.schema executable alike document valid parent first second stand given
      (r.type_of context) (r.answer context) (respects context) [] object node possible)

  pub parts-of-queries-join : QueriesStand S C → JoinOfTwoSets s root r → PartsOfQueriesJoin s root r
  parts-of-queries-join stand join alike document valid name query is_chosen is_query first second is given context =
      let q = stand root.schema document query (chosen-in name document query is_chosen) is_query in
      let stands : IsSetOf (declarations_of root.schema) document (Some q.0) (first ++ second) =
      subst (IsSetOf (declarations_of root.schema) document (Some q.0)) is q.1 in
      let answered : List (Selection S) → Value S =
      λ set. data_of (runs s root.schema r document given (record query.item { selection_set = set })
      None context).outcome in
      subst (λ whole. IsJoin (answered first) (answered second) (answered whole)) (sym is)
      (join alike document valid q.0 first second stands
      (final_value given (variables_in query.item.variable_definitions)) context root.schema.query (asked.Own r.root) q.2)
