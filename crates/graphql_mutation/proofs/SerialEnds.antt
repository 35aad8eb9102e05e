-- The groups that are collected of a mutation's root, each fragment entered once, one after the other.
use Rattle.std.proofs.Common.{◌≡◌, refl, sym, ◌∙◌, ap, subst, ◌⊎◌, ℕ, ◌+◌, ◌<◌, List, [], ◌∷◌, ◌++◌, append_assoc, map, length, take, drop, get_or, Some, None}
use Rattle.std.specs.List.{IsDistinct}
use Rattle.std.specs.Str.{bytes_eq}
use Rattle.std.proofs.lemmas.List.{map-append, take-append-drop, take_more}
use Rattle.graphql_names.specs.Names.{Bytes}
use Rattle.graphql_tree.specs.declared.document.Fragment.{Fragment}
use Rattle.graphql_output_values.specs.Objects.{HasDistinctKeys}
use Rattle.graphql_output_values.specs.declared.value.Value.{Value}
use Rattle.graphql_written_out.specs.Trees.{Tree}
use Rattle.graphql_collect.specs.Grouped.{Group as Lent, all_found, group_found}
use Rattle.graphql_field_results.specs.declared.execution_error.ExecutionError.{ExecutionError}
use Rattle.graphql_semantics.specs.Completion.{Members, object_members}
use Rattle.graphql_semantics.specs.Evaluation.{Group, found_in}
use Rattle.graphql_semantics.proofs.GroupKeys.{distinct-groups}
use Rattle.graphql_execution_walk.specs.Sets.{AreGroups}
use Rattle.graphql_mutation.specs.Runs.{HasRun, run_map}
use Rattle.graphql_mutation.specs.Serial.{AfterBeginning, Mutation, mutate, root_group, root_groups, serially}
use Rattle.graphql_mutation.proofs.SerialRepeats.{beginning-repeats, serially-repeats}
use Rattle.graphql_mutation.proofs.SerialSteps.{SoFar, so_far-broken, so_far-end, so_far-more, so_far-null, so_far-stopped}

map-take_more : {A B : Type 0} (f : A → B) (xs : List A) (i : ℕ) (x : A) → i < length xs → x ≡ get_or xs i x
    → map f (take (i + 1) xs) ≡ map f (take i xs) ++ f x ∷ []
map-take_more f xs i x within is =
    ap (map f) (take_more xs i x within ∙ ap (λ y. take i xs ++ y ∷ []) (sym is)) ∙ map-append f (take i xs) (x ∷ [])

map-take-drop : {A B : Type 0} (f : A → B) (xs : List A) (i : ℕ) → map f xs ≡ map f (take i xs) ++ map f (drop i xs)
map-take-drop f xs i = ap (map f) (sym (take-append-drop i xs)) ∙ map-append f (take i xs) (drop i xs)

-- nothing was asked yet
pub begins-nowhere : {S N X : Type 0} (m : Mutation S N X) (object : Bytes) (start : X) (gs : List (Group S))
    → AfterBeginning m object start gs start
begins-nowhere m object start gs = record { done = []; others = gs; is = refl; after = refl }

module _ {S N X : Type 0} (m : Mutation S N X) (object : Bytes) (start : X) (fragments : List (Fragment S))
    (items : List (Lent S)) where
  -- so many groups were run
  abbrev pub RunSoFar : ℕ → Members S → List (ExecutionError S) → List (ExecutionError S) → X → Type 0
  RunSoFar i members old new c = SoFar m object start (map (group_found fragments) (take i items)) members old new c

  module _ (i : ℕ) (members : Members S) (old mid : List (ExecutionError S)) (c : X)
      (far : RunSoFar i members old mid c) where
    abbrev done : List (Group S)
    done = map (group_found fragments) (take i items)

    module _ (x : Lent S) (within : i < length items) (is : x ≡ get_or items i x) (new : List (ExecutionError S))
        (after : X) where
      abbrev others : List (Group S)
      others = map (group_found fragments) (drop (i + 1) items)

      cut : map (group_found fragments) items ≡ done ++ group_found fragments x ∷ others
      cut =
          map-take-drop (group_found fragments) items (i + 1)
          ∙ ap (λ gs. gs ++ others) (map-take_more (group_found fragments) items i x within is)
          ∙ append_assoc done (group_found fragments x ∷ []) others

      pub run-more : (v : Value S) (more : Members S)
          → HasRun (root_group m object c x.0 (all_found fragments x.1)) (Some v) mid new after
          → more ≡ members ++ (x.0, v) ∷ []
          → RunSoFar (i + 1) more old new after
      run-more v more has grown =
          subst (λ gs. SoFar m object start gs more old new after)
          (sym (map-take_more (group_found fragments) items i x within is))
          (so_far-more m object start done members old mid c far x.0 (all_found fragments x.1) new after v more has
          grown)

      module _ (sets : List (Tree S)) (are : AreGroups fragments (found_in (m.engine start) object sets) items) where
        pub run-null : HasRun (root_group m object c x.0 (all_found fragments x.1)) None mid new after
            → HasRun (run_map object_members (mutate m object start sets)) None old new after
        run-null has =
            subst (λ r. HasRun (run_map object_members r) None old new after)
            (ap (serially m object start) (sym cut ∙ are.groups)
            ∙ serially-repeats m object (found_in (m.engine start) object sets) are.found are.repeats start)
            (so_far-null m object start done members old mid c far x.0 (all_found fragments x.1) new after others has)

        pub run-broken : (after ≡ c) ⊎ (after ≡ (root_group m object c x.0 (all_found fragments x.1)).after)
            → AfterBeginning m object start (root_groups m object start sets) after
        run-broken either =
            beginning-repeats m object (found_in (m.engine start) object sets) are.found are.repeats start after
            (subst (λ gs. AfterBeginning m object start gs after) (sym cut ∙ are.groups)
            (so_far-broken m object start done members old mid c far x.0 (all_found fragments x.1) new after others
            either))

    module _ (sets : List (Tree S)) (are : AreGroups fragments (found_in (m.engine start) object sets) items) where
      pub run-stopped : AfterBeginning m object start (root_groups m object start sets) c
      run-stopped =
          beginning-repeats m object (found_in (m.engine start) object sets) are.found are.repeats start c
          (subst (λ gs. AfterBeginning m object start gs c)
          (sym (map-take-drop (group_found fragments) items i) ∙ are.groups)
          (so_far-stopped m object start done members old mid c far (map (group_found fragments) (drop i items))))

      module _ (whole : take i items ≡ items) where
        all_done : done ≡ map (group_found fragments) items
        all_done = ap (map (group_found fragments)) whole

        pub run-end
            : HasRun (run_map object_members (mutate m object start sets)) (Some (object_members members)) old mid c
        run-end =
            subst (λ r. HasRun (run_map object_members r) (Some (object_members members)) old mid c)
            (ap (serially m object start) (all_done ∙ are.groups)
            ∙ serially-repeats m object (found_in (m.engine start) object sets) are.found are.repeats start)
            (so_far-end m object start done members old mid c far)

        pub members-distinct : HasDistinctKeys members
        members-distinct =
            subst (IsDistinct bytes_eq)
            (sym (far.keys ∙ ap (λ (gs : List (Group S)). map (λ g. g.0) gs) (all_done ∙ are.groups)))
            (distinct-groups are.found)
