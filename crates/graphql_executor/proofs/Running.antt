-- What an operation gives and leaves, over a request that is put together of a document and of final values.
use Rattle.std.proofs.Common.{◌≡◌, refl, ap, ◌∙◌, subst, Bool, List, [], ◌∷◌, ◌++◌, Option, Some, None, Result, Ok, Err, OnErr}
use Rattle.std.specs.Prelude.{IsPermutation, unwrap_or}
use Rattle.std.specs.declared.cmp.Ordering.{Ordering}
use Rattle.std.specs.List.Sorted.{IsSorted}
use Rattle.graphql_names.specs.Names.{Bytes}
use Rattle.graphql_scalars.specs.ScalarAnswers.{ScalarAnswer}
use Rattle.graphql_values.specs.declared.input_value.InputValue.{InputValue}
use Rattle.graphql_output_values.specs.declared.value.Value.{Value}
use Rattle.graphql_output_values.specs.declared.value.Value.TheVariants as value
use Rattle.graphql_tree.specs.declared.document.Definition.{Definition}
use Rattle.graphql_tree.specs.declared.document.Operation.{Operation}
use Rattle.graphql_tree.specs.declared.selection.Selection.{Selection}
use Rattle.graphql_schema.specs.declared.schema.SchemaType.{SchemaType}
use Rattle.graphql_written_out.specs.Trees.{Tree}
use Rattle.graphql_written_out.specs.Written.{written}
use Rattle.graphql_tree.specs.Definitions.{fragments_listed}
use Rattle.graphql_collected.specs.Requests.{written_in}
use Rattle.graphql_collected.specs.declared.request.Request.{Request}
use Rattle.graphql_field_results.specs.declared.execution_error.ExecutionError.{ExecutionError}
use Rattle.graphql_semantics.specs.Completion.{Members, object_members}
use Rattle.graphql_execution_walk.specs.Engines.{Resolves}
use Rattle.graphql_execution_walk.specs.declared.asked.Asked.{Asked}
use Rattle.graphql_execution_walk.specs.Sets.{sets_in}
use Rattle.graphql_look_ahead.specs.declared.selected.Selected.{Selected}
use Rattle.graphql_mutation.specs.Mutations.{Changes, mutation_of, mutation_over}
use Rattle.graphql_mutation.specs.Runs.{HasRun, run_map}
use Rattle.graphql_mutation.specs.Serial.{AfterBeginning, Mutation, Run, mutate, root_groups}
use Rattle.graphql_schema.specs.Scalars.{Scalars}
use Rattle.graphql_executor.specs.Executed.{IsBegun, IsBegunAt, Responds, run_at, runs}
use Rattle.graphql_executor.specs.Resolvers.{Resolver}

-- what always holds holds on `Err`
pub on_err : {A E : Type 0} (r : Result A E) (P : Type 0) → P → OnErr r P
on_err (Ok x) P h = tt
on_err (Err e) P h = h

-- nothing is begun yet
pub begun-at-once : {S N X : Type 0} (m : Mutation S N X) (query : Bytes) (node : N) (sets : List (Tree S))
    (root : Option Bytes) (c : X) → IsBegunAt m query node sets root c c
begun-at-once m query node sets None c = refl
begun-at-once m query node sets (Some root) c =
    record { done = []; others = root_groups m root c sets; is = refl; after = refl }

-- data and errors of a run whose failures are told behind nothing
responds-by : {S X : Type 0} (cmp : ExecutionError S → ExecutionError S → Ordering) (run : Run S X (Members S))
    (v : Option (Value S)) (old failures errors : List (ExecutionError S)) (answered : Value S) (new : X) → old ≡ []
    → HasRun (run_map object_members run) v old failures new → answered ≡ unwrap_or v value.Null
    → IsPermutation failures errors → IsSorted cmp errors → Responds cmp run answered errors new
responds-by cmp run v old failures errors answered new none h is all sorted = record {
  response = record {
    is = is ∙ ap (λ x. unwrap_or x value.Null) h.is;
    all = subst (λ fs. IsPermutation fs errors) (h.told ∙ ap (λ fs. fs ++ run.outcome.failures) none) all;
    sorted = sorted;
  };
  after = h.after;
}

-- an executor at the root stands over the request, at an object of the type, and selects the set
module _ {S C N X : Type 0} (of_text : Bytes → S) (of_bool : Bool → S) (answer : S → ScalarAnswer) (types : X → N → Bytes)
    (resolves : X → Resolves S N) (changes : Changes S N X) (at r : Request S C) (here object : Bytes)
    (selected : Selected S) (set : List (Selection S)) (over : at ≡ r) (of : here ≡ object)
    (selects : sets_in r selected ≡ written_in r set ∷ []) where
  at-root : (P : Request S C → Bytes → List (Tree S) → Type 0) → P at here (sets_in at selected)
      → P r object (written_in r set ∷ [])
  at-root P h =
      subst (λ sets. P r object sets) selects
      (subst (λ name. P r name (sets_in r selected)) of (subst (λ q. P q here (sets_in q selected)) over h))

  abbrev asked : Request S C → Mutation S (Asked S N C) X
  asked q = mutation_of of_text of_bool answer q types resolves changes

  pub mutation-responds : (cmp : ExecutionError S → ExecutionError S → Ordering) (c new : X) (v : Option (Value S))
      (old failures errors : List (ExecutionError S)) (answered : Value S) → old ≡ []
      → HasRun (run_map object_members (mutate (asked at) here c (sets_in at selected))) v old failures new
      → answered ≡ unwrap_or v value.Null → IsPermutation failures errors → IsSorted cmp errors
      → Responds cmp (mutate (asked r) object c (written_in r set ∷ [])) answered errors new
  mutation-responds cmp c new v old failures errors answered none h is all sorted =
      at-root (λ q name sets. Responds cmp (mutate (asked q) name c sets) answered errors new)
      (responds-by cmp (mutate (asked at) here c (sets_in at selected)) v old failures errors answered new none h is all sorted)

  pub mutation-begun : (c new : X)
      → AfterBeginning (asked at) here c (root_groups (asked at) here c (sets_in at selected)) new
      → AfterBeginning (asked r) object c (root_groups (asked r) object c (written_in r set ∷ [])) new
  mutation-begun c new h =
      at-root (λ q name sets. AfterBeginning (asked q) name c (root_groups (asked q) name c sets) new) h

-- the same document, and the same set
pub over-document : {S N X : Type 0} (cmp : ExecutionError S → ExecutionError S → Ordering) (m : Mutation S N X) (query : Bytes)
    (node : N) (root : Option Bytes) (c new : X) (answered : Value S) (errors : List (ExecutionError S))
    (at document : List (Definition S)) (there set : List (Selection S)) → at ≡ document → there ≡ set
    → Responds cmp (run_at m query node (written (fragments_listed at) there ∷ []) root c) answered errors new
    → Responds cmp (run_at m query node (written (fragments_listed document) set ∷ []) root c) answered errors new
over-document cmp m query node root c new answered errors at document there set over is h =
    subst (λ s. Responds cmp (run_at m query node (written (fragments_listed document) s ∷ []) root c) answered errors new) is
    (subst (λ d. Responds cmp (run_at m query node (written (fragments_listed d) there ∷ []) root c) answered errors new) over h)

-- the same values of variables
module _ {S C N X : Type 0} (of_text : Bytes → S) (of_bool : Bool → S) (answer : S → ScalarAnswer) (schema : SchemaType S C) (types : X → N → Bytes)
    (resolves : X → Resolves S N) (changes : Changes S N X) (node : Asked S N C) (sets : List (Tree S)) (root : Option Bytes) (c new : X)
    (at values : Bytes → Option (InputValue S)) (over : at ≡ values) where
  abbrev asked_over : (Bytes → Option (InputValue S)) → Mutation S (Asked S N C) X
  asked_over v = mutation_over of_text of_bool answer schema v types resolves changes

  pub values-respond : (cmp : ExecutionError S → ExecutionError S → Ordering) (answered : Value S)
      (errors : List (ExecutionError S))
      → Responds cmp (run_at (asked_over at) schema.query node sets root c) answered errors new
      → Responds cmp (run_at (asked_over values) schema.query node sets root c) answered errors new
  values-respond cmp answered errors h =
      subst (λ v. Responds cmp (run_at (asked_over v) schema.query node sets root c) answered errors new) over h

  pub values-begun : IsBegunAt (asked_over at) schema.query node sets root c new
      → IsBegunAt (asked_over values) schema.query node sets root c new
  values-begun h = subst (λ v. IsBegunAt (asked_over v) schema.query node sets root c new) over h

-- the same schema
module _ {S C N X : Type 0} (s : Scalars S C) (r : Resolver S N X) (document : List (Definition S))
    (given : Bytes → Option (InputValue S)) (operation : Operation S) (root : Option Bytes) (c new : X)
    (at schema : SchemaType S C) (over : at ≡ schema) where
  pub schema-responds : (cmp : ExecutionError S → ExecutionError S → Ordering) (answered : Value S)
      (errors : List (ExecutionError S)) → Responds cmp (runs s at r document given operation root c) answered errors new
      → Responds cmp (runs s schema r document given operation root c) answered errors new
  schema-responds cmp answered errors h =
      subst (λ x. Responds cmp (runs s x r document given operation root c) answered errors new) over h

  pub schema-begun : IsBegun s at r document given operation root c new → IsBegun s schema r document given operation root c new
  schema-begun h = subst (λ x. IsBegun s x r document given operation root c new) over h
