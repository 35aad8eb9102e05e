-- Operations of one type whose runs are the same but for places yield the same.
use Rattle.std.proofs.Common.{◌≡◌, ◌↔◌, refl, sym, ◌∙◌, ap, arith, length, List, [], ◌∷◌, map, Option}
use Rattle.std.specs.declared.cmp.Ordering.{Ordering}
use Rattle.std.specs.List.Sorted.{IsPermutation}
use Rattle.std.proofs.lemmas.List.{length-map}
use Rattle.std.proofs.lemmas.List.Sorted.{length_permutation}
use Rattle.graphql_names.specs.Names.{Bytes}
use Rattle.graphql_values.specs.declared.input_value.InputValue.{InputValue}
use Rattle.graphql_output_values.specs.declared.value.Value.{Value}
use Rattle.graphql_tree.specs.declared.document.Definition.{Definition}
use Rattle.graphql_tree.specs.declared.document.Operation.{Operation}
use Rattle.graphql_schema.specs.declared.schema.SchemaType.{SchemaType}
use Rattle.graphql_field_results.specs.declared.execution_error.ExecutionError.{ExecutionError}
use Rattle.graphql_semantics.specs.Completion.{Members}
use Rattle.graphql_semantics.specs.Outcomes.{Outcome}
use Rattle.graphql_mutation.specs.Serial.{Run}
use Rattle.graphql_plain_answers.specs.WithoutPlaces.{unlocated_failure, unlocated_outcome, unlocated_run}
use Rattle.graphql_requests.specs.Operations.{mutation_root}
use Rattle.graphql_schema.specs.Scalars.{Scalars}
use Rattle.graphql_requests.proofs.Exclusive.{from-ok}
use Rattle.graphql_executor.specs.Executed.{Yields, data_of, runs}
use Rattle.graphql_executor.specs.Resolvers.{Resolver}

-- failures that are as many are there in both or in neither, in whichever order they are told
pub none-of : {A : Type 0} (xs : List A) → length xs ≡ 0 → xs ≡ []
none-of [] e = refl
none-of (x ∷ xs) e = absurd (omega (arith, e))

pub as-many : {A : Type 0} (f : A → A) (xs ys us vs : List A) → map f xs ≡ map f ys
    → IsPermutation xs us → IsPermutation ys vs → us ≡ [] → vs ≡ []
as-many f xs ys us vs same p q empty =
    none-of vs
    (length_permutation ys vs q ∙ sym (length-map ys f) ∙ ap length (sym same)
    ∙ length-map xs f ∙ sym (length_permutation xs us p) ∙ ap length empty)

module _ {S C N X : Type 0} (s : Scalars S C) (schema : SchemaType S C) (r : Resolver S N X)
    (given : Bytes → Option (InputValue S))
    (document again : List (Definition S)) (o x : Operation S) where
  -- operations of one type whose runs are the same but for places yield the same
  pub yield-alike : x.operation_type ≡ o.operation_type
      → ((root : Option Bytes) (c : X) → unlocated_run (runs s schema r document given o root c)
      ≡ unlocated_run (runs s schema r again given x root c))
      → (cmp : ExecutionError S → ExecutionError S → Ordering) (old new after : X)
      (answered told : Value S) (errors others : List (ExecutionError S))
      → Yields s schema r document given o cmp old answered errors new
      → Yields s schema r again given x cmp old told others after
      → (answered ≡ told) × ((errors ≡ []) ↔ (others ≡ [])) × (new ≡ after)
  yield-alike kind law cmp old new after answered told errors others y z =
      let roots : z.root ≡ y.root = ap (from-ok y.root)
      (sym z.served ∙ ap (mutation_root schema.mutation) kind ∙ y.served) in
      let one : Run S X (Members S) = runs s schema r document given o y.root old in
      let theirs : Run S X (Members S) = runs s schema r again given x z.root old in
      let same : unlocated_run one ≡ unlocated_run theirs =
      law y.root old ∙ ap (λ root. unlocated_run (runs s schema r again given x root old))
      (sym roots) in
      let outcome : unlocated_outcome one.outcome ≡ unlocated_outcome theirs.outcome =
      ap (λ (run : Run S X (Members S)). run.outcome) same in
      let failures : map unlocated_failure one.outcome.failures
      ≡ map unlocated_failure theirs.outcome.failures =
      ap (λ (p : Outcome S (Members S)). p.failures) outcome in
      let ours_told = y.responds.response.all in
      let theirs_told = z.responds.response.all in (
        y.responds.response.is ∙ ap (λ (p : Outcome S (Members S)). data_of p) outcome
            ∙ sym z.responds.response.is,
        (
          as-many unlocated_failure _ _ errors others failures ours_told theirs_told,
          as-many unlocated_failure _ _ others errors (sym failures) theirs_told ours_told,
        ),
        y.responds.after ∙ ap (λ (run : Run S X (Members S)). run.after) same
            ∙ sym z.responds.after,
      )
