-- What is answered fits what is selected, and its errors are just what fails.
use Rattle.std.proofs.Common.{◌≡◌, ◌⊎◌, ◌↔◌, inl, inr, refl, sym, ap, ◌∙◌, List, [], ◌∷◌, length, Option, Some, None, IfSome, IsPermutation}
use Rattle.std.specs.Prelude.{unwrap_or}
use Rattle.std.specs.declared.cmp.Ordering.{Ordering}
use Rattle.std.specs.List.{Contains}
use Rattle.std.specs.Option.{option_map}
use Rattle.std.proofs.lemmas.List.Sorted.{Contains-permutation, IsPermutation-sym, length_permutation}
use Rattle.graphql_names.specs.Names.{Bytes}
use Rattle.graphql_output_values.specs.declared.value.Value.{Value}
use Rattle.graphql_output_values.specs.declared.value.Value.TheVariants as value
use Rattle.graphql_tree.specs.Definitions.{fragments_listed}
use Rattle.graphql_tree.specs.Documents.{variables_in}
use Rattle.graphql_written_out.specs.FinalValues.{final_value}
use Rattle.graphql_written_out.specs.Trees.{Tree}
use Rattle.graphql_written_out.specs.Written.{written}
use Rattle.graphql_field_results.specs.declared.execution_error.ExecutionError.{ExecutionError}
use Rattle.graphql_semantics.specs.Completion.{Members, object_members}
use Rattle.graphql_semantics.specs.Failing.{IsAccounted}
use Rattle.graphql_semantics.specs.Laws.{DataFit, FailuresAreExact, NoDataFails}
use Rattle.graphql_semantics.specs.Outcomes.{Outcome}
use Rattle.graphql_execution_walk.specs.declared.asked.Asked.{Asked}
use Rattle.graphql_execution_walk.specs.declared.asked.Asked.TheVariants as asked
use Rattle.graphql_mutation.specs.Laws.{RunFailuresAreExact, RunsFit, RunsWithoutDataFail}
use Rattle.graphql_mutation.specs.Mutations.{mutation_over}
use Rattle.graphql_mutation.specs.Serial.{Mutation}
use Rattle.graphql_schema.specs.Scalars.{Scalars}
use Rattle.graphql_executor.specs.Answered.{Asking, IsAnswered}
use Rattle.graphql_executor.specs.Executed.{IsResponse, data_of, run_at}
use Rattle.graphql_executor.specs.Fitting.{FailsAt, FitsAnswer, IsFit, MembersFitAt}
use Rattle.graphql_executor.specs.Resolvers.{Resolver}

none-left : {A : Type 0} (xs : List A) → length xs ≡ 0 → xs ≡ []
none-left [] e = refl
none-left (x ∷ xs) e = absurd (cc)

module _ {S : Type 0} (cmp : ExecutionError S → ExecutionError S → Ordering) (o : Outcome S (Members S)) (answered : Value S) (errors : List (ExecutionError S))
    (response : IsResponse cmp o answered errors) where
  told-some : (o.failures ≡ [] → ⊥) → errors ≡ [] → ⊥
  told-some some none =
      some (none-left o.failures (sym (length_permutation o.failures errors response.all) ∙ ap length none))

  data-fits : (Fit : Members S → Type 0) → IfSome o.value Fit → IsAccounted o
      → ((answered ≡ value.Null) × (errors ≡ [] → ⊥)) ⊎ ((members : Members S) × (answered ≡ object_members members) × Fit members)
  data-fits Fit fits accounted = by-value o.value refl fits
    where
      by-value : (v : Option (Members S)) → o.value ≡ v → IfSome v Fit
          → ((answered ≡ value.Null) × (errors ≡ [] → ⊥)) ⊎ ((members : Members S) × (answered ≡ object_members members) × Fit members)
      by-value None is h =
          inl ((response.is ∙ ap (λ (w : Option (Members S)). unwrap_or (option_map object_members w) value.Null) is, told-some (accounted is)))
      by-value (Some members) is h =
          inr ((members, response.is ∙ ap (λ (w : Option (Members S)). unwrap_or (option_map object_members w) value.Null) is, h))

  errors-exact : (F : ExecutionError S → Type 0) → ((f : ExecutionError S) → Contains o.failures f ↔ F f) → (f : ExecutionError S) → Contains errors f ↔ F f
  errors-exact F exact f = (
    λ h. (exact f).0 (Contains-permutation errors o.failures f (IsPermutation-sym o.failures errors response.all) h),
    λ h. Contains-permutation o.failures errors f response.all ((exact f).1 h),
  )

module _ {S N X : Type 0} (fit : DataFit S N) (exact : FailuresAreExact S N) (accounted : NoDataFails S N)
    (runs_fit : RunsFit S N X) (runs_exact : RunFailuresAreExact S N X) (runs_accounted : RunsWithoutDataFail S N X)
    (m : Mutation S N X) (query : Bytes) (node : N) (sets : List (Tree S)) (cmp : ExecutionError S → ExecutionError S → Ordering) where
  response-fits : (root : Option Bytes) (c : X) (answered : Value S) (errors : List (ExecutionError S))
      → IsResponse cmp (run_at m query node sets root c).outcome answered errors → IsFit m query node sets root c answered errors
  response-fits None c answered errors response =
      let o = (run_at m query node sets None c).outcome in
      record {
        fits = data-fits cmp o answered errors response (MembersFitAt m query node sets None c)
            (fit (m.engine c) [] query node sets) (accounted (m.engine c) [] query node sets);
        exact = errors-exact cmp o answered errors response (FailsAt m query node sets None c) (exact (m.engine c) [] query node sets);
      }
  response-fits (Some root) c answered errors response =
      let o = (run_at m query node sets (Some root) c).outcome in
      record {
        fits = data-fits cmp o answered errors response (MembersFitAt m query node sets (Some root) c)
            (runs_fit m root c sets) (runs_accounted m root c sets);
        exact = errors-exact cmp o answered errors response (FailsAt m query node sets (Some root) c) (runs_exact m root c sets);
      }

module _ {S C N X : Type 0} (fit : DataFit S (Asked S N C)) (exact : FailuresAreExact S (Asked S N C)) (accounted : NoDataFails S (Asked S N C))
    (runs_fit : RunsFit S (Asked S N C) X) (runs_exact : RunFailuresAreExact S (Asked S N C) X) (runs_accounted : RunsWithoutDataFail S (Asked S N C) X)
    (s : Scalars S C) (a : Asking S C) (r : Resolver S N X) where
  pub answer-fits : (cmp : ExecutionError S → ExecutionError S → Ordering) (c new : X) (answered : Value S) (errors : List (ExecutionError S))
      → (h : IsAnswered s a r cmp c answered errors new)
      → FitsAnswer s a r h.document h.operation.item h.yields.root c answered errors
  answer-fits cmp c new answered errors h =
      let operation = h.operation.item in
      let values = final_value a.given (variables_in operation.variable_definitions) in
      response-fits fit exact accounted runs_fit runs_exact runs_accounted
      (mutation_over s.of_text s.of_bool s.answer a.schema values r.type_of r.answer r.changes) a.schema.query (asked.Own r.root)
      (written (fragments_listed h.document) operation.selection_set ∷ []) cmp h.yields.root c answered errors h.yields.responds.response
