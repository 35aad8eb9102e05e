-- What an operation yields, and what its plain operation yields
-- (GraphQL October 2021, 6.2 Executing Operations, 7.1 Response Format).
use Rattle.std.specs.Prelude.{◌≡◌, ◌↔◌, List, [], Option}
use Rattle.std.specs.declared.cmp.Ordering.{Ordering}
use Rattle.graphql_names.specs.Names.{Bytes}
use Rattle.graphql_values.specs.InputValues.{Placed}
use Rattle.graphql_output_values.specs.declared.value.Value.{Value}
use Rattle.graphql_tree.specs.declared.document.Definition.{Definition}
use Rattle.graphql_tree.specs.declared.document.Operation.{Operation}
use Rattle.graphql_schema.specs.declared.schema.SchemaType.{SchemaType}
use Rattle.graphql_field_results.specs.declared.execution_error.ExecutionError.{ExecutionError}
use Rattle.graphql_plain_answers.specs.AgreeingValues.{AgreeOn, Values}
use Rattle.graphql_plain_answers.specs.Lawful.{IsLawful}
use Rattle.graphql_plain_answers.specs.WithoutPlaces.{unlocated_run}
use Rattle.graphql_schema.specs.Scalars.{Scalars}
use Rattle.graphql_plain_requests.specs.AcceptedAgain.{IsPlainPair, used_by}
use Rattle.graphql_executor.specs.Executed.{Yields, runs}
use Rattle.graphql_executor.specs.Resolvers.{Resolver}

module _ {S C : Type 0} (s : Scalars S C) (N X : Type 0) where
  -- they give one value, and failures that differ in their places alone, and leave one context,
  -- also where variables have other values then that no field of the plain document uses
  abbrev pub PlainRunsAreAlike : Type 0
  PlainRunsAreAlike =
      (schema : SchemaType S C) (r : Resolver S N X) → IsLawful s.eq r.answer r.changes
      → (given others : Values S) (document : List (Definition S)) (o : Operation S)
      (again : List (Definition S)) (x : Placed (Operation S))
      → IsPlainPair s given document o again x → AgreeOn given others (used_by s given document o)
      → (root : Option Bytes) (c : X)
      → unlocated_run (runs s schema r document given o root c)
      ≡ unlocated_run (runs s schema r again others x.item root c)

  -- of what they yield on one context the data are the same, there are errors in both or in
  -- neither, and the same context is left
  abbrev pub PlainOperationsYieldAlike : Type 0
  PlainOperationsYieldAlike =
      (schema : SchemaType S C) (r : Resolver S N X) → IsLawful s.eq r.answer r.changes
      → (given : Values S) (document : List (Definition S)) (o : Operation S)
      (again : List (Definition S)) (x : Placed (Operation S))
      → IsPlainPair s given document o again x
      → (cmp : ExecutionError S → ExecutionError S → Ordering) (old new after : X)
      (answered told : Value S) (errors others : List (ExecutionError S))
      → Yields s schema r document given o cmp old answered errors new
      → Yields s schema r again given x.item cmp old told others after
      → (answered ≡ told) × ((errors ≡ []) ↔ (others ≡ [])) × (new ≡ after)
