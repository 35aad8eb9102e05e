-- What a query is answered, and that it leaves the context.
use Rattle.std.proofs.Common.{◌≡◌, ◌∙◌, ap, sym, subst, drop, take, List, Option, None, Result, Ok}
use Rattle.std.proofs.lemmas.List.{take-append-drop}
use Rattle.std.specs.declared.cmp.Ordering.{Ordering}
use Rattle.graphql_names.specs.Names.{Bytes}
use Rattle.graphql_values.specs.declared.input_value.InputValue.{InputValue}
use Rattle.graphql_values.specs.InputValues.{Placed}
use Rattle.graphql_output_values.specs.declared.value.Value.{Value}
use Rattle.graphql_tree.specs.declared.document.Definition.{Definition}
use Rattle.graphql_tree.specs.declared.document.Operation.{Operation}
use Rattle.graphql_tree.specs.declared.document.OperationType.TheVariants as kind
use Rattle.graphql_tree.specs.declared.selection.Selection.{Selection}
use Rattle.graphql_schema.specs.Declarations.{declarations_of}
use Rattle.graphql_schema.specs.declared.root_node.RootNode.{RootNode}
use Rattle.graphql_schema.specs.declared.schema.SchemaType.{SchemaType}
use Rattle.graphql_field_results.specs.declared.execution_error.ExecutionError.{ExecutionError}
use Rattle.graphql_requests.specs.Operations.{chosen}
use Rattle.graphql_validation.specs.AllRules.{IsValid}
use Rattle.graphql_executor.specs.Executed.{Responds, Yields, data_of, runs}
use Rattle.graphql_executor.specs.Requests.{GraphQLError, Scalars}
use Rattle.graphql_executor.specs.Resolvers.{Resolver}
use Rattle.graphql_joins.specs.Joins.{IsJoin}
use Rattle.graphql_joins.specs.RequestLaws.{EqualsAnswerAlike}
use Rattle.graphql_service.specs.JoinLaws.{PartsOfQueriesJoin}

module _ {S C N X : Type 0} (s : Scalars S C) (schema : SchemaType S C) (r : Resolver S N X)
    (document : List (Definition S)) (given : Bytes → Option (InputValue S))
    (cmp : ExecutionError S → ExecutionError S → Ordering) (old : X) (answered : Value S)
    (errors : List (ExecutionError S)) (new : X) where
  abbrev YieldsOf : Operation S → Type 0
  YieldsOf o = Yields s schema r document given o cmp old answered errors new

  -- evaluated on the context
  abbrev RespondsOf : Operation S → Option Bytes → Type 0
  RespondsOf o root = Responds cmp (runs s schema r document given o root old) answered errors new

  abbrev as_query : Operation S → Operation S
  as_query o = record o { operation_type = kind.Query }

  query_responds : (o : Operation S) → YieldsOf (as_query o) → RespondsOf (as_query o) None
  query_responds o y =
      let served : ◌≡◌ {A = Result (Option Bytes) GraphQLError} (Ok None) (Ok y.root) = y.served in
      let is : y.root ≡ None = cc in
      subst (RespondsOf (as_query o)) is y.responds

  pub query-responds : (o : Operation S) → o.operation_type ≡ kind.Query → YieldsOf o → RespondsOf o None
  query-responds o is_query =
      subst (λ (p : Operation S). YieldsOf p → RespondsOf p None)
      (λ i. record o { operation_type = sym is_query i }) (query_responds o)

-- of a query that is executed in parts and whole, each time on what the time before left
module _ {S C N X : Type 0} (s : Scalars S C) (root : RootNode S C) (r : Resolver S N X)
    (document : List (Definition S)) (given : Bytes → Option (InputValue S)) where
  abbrev DataOf : Operation S → X → Value S
  DataOf o c = data_of (runs s root.schema r document given o None c).outcome

  abbrev with_set : Placed (Operation S) → List (Selection S) → Placed (Operation S)
  with_set query set = record query { item = record query.item { selection_set = set } }

  pub joined : PartsOfQueriesJoin s root r → EqualsAnswerAlike s.eq s.answer
      → IsValid s (record { schema = declarations_of root.schema; document = document })
      → (query one two : Placed (Operation S)) → chosen None document ≡ Ok query
      → query.item.operation_type ≡ kind.Query
      → one ≡ with_set query (take 1 query.item.selection_set)
      → two ≡ with_set query (drop 1 query.item.selection_set)
      → (c d e : X) → d ≡ c → e ≡ d → (x y z : Value S)
      → x ≡ DataOf one.item c → y ≡ DataOf two.item d → z ≡ DataOf query.item e → IsJoin x y z
  joined law alike valid query one two is is_query first others c d e kept again x y z
      of_one of_two of_all =
      let set = query.item.selection_set in
      let join =
      law alike document valid None query is is_query (take 1 set) (drop 1 set)
      (sym (take-append-drop 1 set)) given c in
      let a = of_one ∙ ap (λ (o : Placed (Operation S)). DataOf o.item c) first in
      let b =
      of_two ∙ ap (λ (o : Placed (Operation S)). DataOf o.item d) others
      ∙ ap (DataOf (with_set query (drop 1 set)).item) kept in
      let whole = of_all ∙ ap (DataOf query.item) (again ∙ kept) in
      subst (λ v. IsJoin v y z) (sym a)
      (subst (λ v. IsJoin (DataOf (with_set query (take 1 set)).item c) v z) (sym b)
      (subst (λ v. IsJoin (DataOf (with_set query (take 1 set)).item c)
      (DataOf (with_set query (drop 1 set)).item c) v) (sym whole) join))
