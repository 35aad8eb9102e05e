-- What an answer comes to depends on places in its failures' places alone.
use Rattle.std.proofs.Common.{◌≡◌, refl, sym, ◌∙◌, ap, Bool, true, false, List, [], ◌∷◌, ◌++◌, map, reverse, None, Result, Ok, Err}
use Rattle.std.proofs.lemmas.List.{map-append}
use Rattle.graphql_names.specs.Names.{Bytes}
use Rattle.graphql_names.specs.declared.type_modifier.TypeModifier.{TypeModifier}
use Rattle.graphql_names.specs.declared.type_modifier.TypeModifier.TheVariants as modifier
use Rattle.graphql_schema.specs.Types.{TypeOf}
use Rattle.graphql_output_values.specs.declared.value.Value.{Value}
use Rattle.graphql_output_values.specs.declared.value.Value.TheVariants as value
use Rattle.graphql_field_results.specs.declared.execution_error.ExecutionError.{ExecutionError}
use Rattle.graphql_field_results.specs.declared.field_error.FieldError.{FieldError}
use Rattle.graphql_field_results.specs.declared.resolved.Resolved.{Resolved, out-Resolved}
use Rattle.graphql_field_results.specs.declared.resolved.Resolved.TheOpen.{Resolved-F}
use Rattle.graphql_semantics.specs.Engines.{Engine}
use Rattle.graphql_semantics.specs.Outcomes.{Outcome, both, fails, outcome_map, show_place, together}
use Rattle.graphql_semantics.specs.Completion.{Members, at_list, at_name, at_required, complete, complete_result, is_required, leaf_if, misfit_error, object_members, own_null, run_if}
use Rattle.graphql_semantics.specs.Evaluation.{at_type}
use Rattle.graphql_plain_answers.specs.WithoutPlaces.{unlocated_failure, unlocated_outcome}

pub each-image : {X A B : Type 0} (over : A → B) (f g : X → A) → ((x : X) → over (f x) ≡ over (g x))
    → (xs : List X)
    → map over (map f xs) ≡ map over (map g xs)
each-image over f g h [] = refl
each-image over f g h (x ∷ xs) = λ i. h x i ∷ each-image over f g h xs i

module _ {S : Type 0} where
  abbrev pub U : {A : Type 0} → Outcome S A → Outcome S A
  U = unlocated_outcome

  together-unlocated : {A : Type 0} (os : List (Outcome S A))
      → U (together os) ≡ together (map U os)
  together-unlocated [] = refl
  together-unlocated (o ∷ os) =
      let ih = together-unlocated os in
      λ i. record {
        value = both (λ x xs. x ∷ xs) o.value (ih i).value;
        failures =
            (map-append unlocated_failure o.failures (together os).failures
            ∙ (λ j. map unlocated_failure o.failures ++ (ih j).failures)) i;
      }

  pub together-alike : {A : Type 0} (os ps : List (Outcome S A)) → map U os ≡ map U ps
      → U (together os) ≡ U (together ps)
  together-alike os ps same = together-unlocated os ∙ ap together same ∙ sym (together-unlocated ps)

  -- by two ways to run a field's selections, and two places
  module _ {N : Type 0} (run other : N → Outcome S (Members S))
      (runs : (m : N) → U (run m) ≡ U (other m))
      (blame blames : FieldError S → ExecutionError S)
      (same-blame : (x : FieldError S)
      → unlocated_failure (blame x) ≡ unlocated_failure (blames x)) where
    failing : {A : Type 0} (x : FieldError S)
        → ◌≡◌ {A = Outcome S A} (U (fails (blame x))) (U (fails (blames x)))
    failing x = λ i. record { value = None; failures = same-blame x i ∷ [] }

    module _ (name : Bytes) (leaf : Bool) (possible : N → Bool) where
      at-leaf : (is : Bool) (s : S)
          → U (leaf_if run blame name leaf possible is s)
          ≡ U (leaf_if other blames name leaf possible is s)
      at-leaf true s = refl
      at-leaf false s = failing (misfit_error name [])

      at-node : (is : Bool) (m : N)
          → U (run_if run blame name leaf possible is m)
          ≡ U (run_if other blames name leaf possible is m)
      at-node true m = λ i. outcome_map object_members (runs m i)
      at-node false m = failing (misfit_error name [])

      at-named : (r : Resolved-F S N (Resolved S N))
          → U (at_name run blame name leaf possible r)
          ≡ U (at_name other blames name leaf possible r)
      at-named Resolved-F.Null = refl
      at-named (Resolved-F.Scalar s) = at-leaf leaf s
      at-named (Resolved-F.List items) = failing (misfit_error name [])
      at-named (Resolved-F.Node m) = at-node (possible m) m

      at-items : (wraps : List TypeModifier) (f g : Resolved S N → Outcome S (Value S))
          → ((x : Resolved S N) → U (f x) ≡ U (g x))
          → (r : Resolved-F S N (Resolved S N))
          → U (at_list run blame name leaf possible wraps f r)
          ≡ U (at_list other blames name leaf possible wraps g r)
      at-items wraps f g h Resolved-F.Null = refl
      at-items wraps f g h (Resolved-F.Scalar s) = failing (misfit_error name wraps)
      at-items wraps f g h (Resolved-F.List items) =
          λ i. outcome_map value.List
          (together-alike (map f items) (map g items) (each-image U f g h items) i)
      at-items wraps f g h (Resolved-F.Node m) = failing (misfit_error name wraps)

      where-required : (o p : Outcome S (Value S)) → U o ≡ U p → (r : Resolved-F S N (Resolved S N))
          → U (at_required run blame name leaf possible o r)
          ≡ U (at_required other blames name leaf possible p r)
      where-required o p same Resolved-F.Null = failing own_null
      where-required o p same (Resolved-F.Scalar s) = same
      where-required o p same (Resolved-F.List items) = same
      where-required o p same (Resolved-F.Node m) = same

      completed : (wraps : List TypeModifier) (r : Resolved S N)
          → U (complete run blame name leaf possible wraps r)
          ≡ U (complete other blames name leaf possible wraps r)
      completed [] r = at-named (out-Resolved S N r)
      completed (modifier.NonNull ∷ wraps) r =
          where-required (complete run blame name leaf possible wraps r)
          (complete other blames name leaf possible wraps r)
          (completed wraps r) (out-Resolved S N r)
      completed (modifier.List size ∷ wraps) r =
          at-items (modifier.List size ∷ wraps)
          (λ x. show_place (is_required wraps) (complete run blame name leaf possible wraps x))
          (λ x. show_place (is_required wraps) (complete other blames name leaf possible wraps x))
          (λ x i. show_place (is_required wraps) (completed wraps x i)) (out-Resolved S N r)

      completed-result : (wraps : List TypeModifier) (r : Result (Resolved S N) (FieldError S))
          → U (complete_result run blame name leaf possible wraps r)
          ≡ U (complete_result other blames name leaf possible wraps r)
      completed-result wraps (Ok r) = completed wraps r
      completed-result wraps (Err x) = failing x

    -- an answer at a type
    pub at-type-alike : (e : Engine S N) (type : TypeOf) (r : Result (Resolved S N) (FieldError S))
        → U (at_type e run blame type r) ≡ U (at_type e other blames type r)
    at-type-alike e type r =
        λ i. show_place (is_required (reverse type.modifiers))
        (completed-result type.name (e.is_leaf type.name)
        (λ m. e.is_possible type.name (e.concrete m)) (reverse type.modifiers) r i)
