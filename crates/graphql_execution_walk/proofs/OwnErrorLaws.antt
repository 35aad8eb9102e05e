-- Where the place itself fails nothing else does.
use Rattle.std.proofs.Common.{◌≡◌, refl, ap, ℕ, Bool, true, false, List, [], ◌∷◌, Option, Some, None, Result, Ok, Err}
use Rattle.graphql_names.specs.Names.{Bytes}
use Rattle.graphql_output_values.specs.declared.value.Value.{Value}
use Rattle.graphql_names.specs.declared.type_modifier.TypeModifier.{TypeModifier}
use Rattle.graphql_names.specs.declared.type_modifier.TypeModifier.TheVariants as modifier
use Rattle.graphql_field_results.specs.declared.execution_error.ExecutionError.{ExecutionError}
use Rattle.graphql_field_results.specs.declared.field_error.FieldError.{FieldError}
use Rattle.graphql_field_results.specs.declared.resolved.Resolved.{Resolved, out-Resolved}
use Rattle.graphql_field_results.specs.declared.resolved.Resolved.TheOpen.{Resolved-F}
use Rattle.graphql_semantics.specs.Completion.{Members, at_list, at_name, at_required, complete, complete_result, leaf_if, run_if}
use Rattle.graphql_semantics.specs.Outcomes.{Outcome, fails}
use Rattle.graphql_semantics.specs.Turns.{turns_at, turns_at_list, turns_at_name, turns_at_required, turns_if, turns_of_result}
use Rattle.graphql_execution_walk.specs.OwnErrors.{misfit_unless, own_at_list, own_at_name, own_at_required, own_error, own_error_of}

only-error : {S : Type 0} {x y : FieldError S} (blame : FieldError S → ExecutionError S) → Some x ≡ Some y → fails {A = Value S} (blame x) ≡ fails (blame y)
only-error {S} {x} {y} blame p = (let same : x ≡ y = cc in ap (λ z. fails {A = Value S} (blame z)) same)

module _ {S N : Type 0} (name : Bytes) (is_leaf : Bool) (is_possible : N → Bool) where
  -- the outcome is its failure
  module _ (run : N → Outcome S (Members S)) (blame : FieldError S → ExecutionError S) where
    leaf-fails : (b : Bool) (scalar : S) (x : FieldError S) → misfit_unless {S = S} {N = N} name is_leaf is_possible b ≡ Some x → leaf_if run blame name is_leaf is_possible b scalar ≡ fails (blame x)
    leaf-fails true scalar x p = (let q : None ≡ Some x = p in cc)
    leaf-fails false scalar x p = only-error blame p

    node-fails : (b : Bool) (m : N) (x : FieldError S) → misfit_unless {S = S} {N = N} name is_leaf is_possible b ≡ Some x → run_if run blame name is_leaf is_possible b m ≡ fails (blame x)
    node-fails true m x p = (let q : None ≡ Some x = p in cc)
    node-fails false m x p = only-error blame p

    name-fails : (r : Resolved-F S N (Resolved S N)) (x : FieldError S) → own_at_name name is_leaf is_possible r ≡ Some x → at_name run blame name is_leaf is_possible r ≡ fails (blame x)
    name-fails Resolved-F.Null x p = (let q : None ≡ Some x = p in cc)
    name-fails (Resolved-F.Scalar scalar) x p = leaf-fails is_leaf scalar x p
    name-fails (Resolved-F.List items) x p = only-error blame p
    name-fails (Resolved-F.Node m) x p = node-fails (is_possible m) m x p

    list-fails : (wraps : List TypeModifier) (item : Resolved S N → Outcome S (Value S)) (r : Resolved-F S N (Resolved S N)) (x : FieldError S) → own_at_list name is_leaf is_possible wraps r ≡ Some x
        → at_list run blame name is_leaf is_possible wraps item r ≡ fails (blame x)
    list-fails wraps item Resolved-F.Null x p = (let q : None ≡ Some x = p in cc)
    list-fails wraps item (Resolved-F.Scalar scalar) x p = only-error blame p
    list-fails wraps item (Resolved-F.List items) x p = (let q : None ≡ Some x = p in cc)
    list-fails wraps item (Resolved-F.Node m) x p = only-error blame p

    required-fails : (own : Option (FieldError S)) (o : Outcome S (Value S)) (r : Resolved-F S N (Resolved S N)) (x : FieldError S) → (own ≡ Some x → o ≡ fails (blame x))
        → own_at_required name is_leaf is_possible own r ≡ Some x → at_required run blame name is_leaf is_possible o r ≡ fails (blame x)
    required-fails own o Resolved-F.Null x h p = only-error blame p
    required-fails own o (Resolved-F.Scalar scalar) x h p = h p
    required-fails own o (Resolved-F.List items) x h p = h p
    required-fails own o (Resolved-F.Node m) x h p = h p

    answer-fails : (wraps : List TypeModifier) (r : Resolved S N) (x : FieldError S) → own_error name is_leaf is_possible wraps r ≡ Some x → complete run blame name is_leaf is_possible wraps r ≡ fails (blame x)
    answer-fails [] r x p = name-fails (out-Resolved S N r) x p
    answer-fails (modifier.NonNull ∷ wraps) r x p =
        required-fails (own_error name is_leaf is_possible wraps r) (complete run blame name is_leaf is_possible wraps r) (out-Resolved S N r) x (answer-fails wraps r x) p
    answer-fails (modifier.List size ∷ wraps) r x p = list-fails (modifier.List size ∷ wraps) _ (out-Resolved S N r) x p

    pub own-fails : (wraps : List TypeModifier) (answer : Result (Resolved S N) (FieldError S)) (x : FieldError S) → own_error_of name is_leaf is_possible wraps answer ≡ Some x
        → complete_result run blame name is_leaf is_possible wraps answer ≡ fails (blame x)
    own-fails wraps (Ok r) x p = answer-fails wraps r x p
    own-fails wraps (Err e) x p = only-error blame p

  -- it takes one turn
  module _ (run : N → ℕ) where
    node-turns : (b : Bool) (m : N) (x : FieldError S) → misfit_unless {S = S} {N = N} name is_leaf is_possible b ≡ Some x → turns_if run b m ≡ 1
    node-turns true m x p = (let q : None ≡ Some x = p in cc)
    node-turns false m x p = refl

    name-turns : (r : Resolved-F S N (Resolved S N)) (x : FieldError S) → own_at_name name is_leaf is_possible r ≡ Some x → turns_at_name run is_possible r ≡ 1
    name-turns Resolved-F.Null x p = refl
    name-turns (Resolved-F.Scalar scalar) x p = refl
    name-turns (Resolved-F.List items) x p = refl
    name-turns (Resolved-F.Node m) x p = node-turns (is_possible m) m x p

    list-turns : (wraps : List TypeModifier) (item : Resolved S N → ℕ) (r : Resolved-F S N (Resolved S N)) (x : FieldError S) → own_at_list name is_leaf is_possible wraps r ≡ Some x → turns_at_list item r ≡ 1
    list-turns wraps item Resolved-F.Null x p = refl
    list-turns wraps item (Resolved-F.Scalar scalar) x p = refl
    list-turns wraps item (Resolved-F.List items) x p = (let q : None ≡ Some x = p in cc)
    list-turns wraps item (Resolved-F.Node m) x p = refl

    required-turns : (own : Option (FieldError S)) (some : ℕ) (r : Resolved-F S N (Resolved S N)) (x : FieldError S) → (own ≡ Some x → some ≡ 1)
        → own_at_required name is_leaf is_possible own r ≡ Some x → turns_at_required some r ≡ 1
    required-turns own some Resolved-F.Null x h p = refl
    required-turns own some (Resolved-F.Scalar scalar) x h p = h p
    required-turns own some (Resolved-F.List items) x h p = h p
    required-turns own some (Resolved-F.Node m) x h p = h p

    answer-turns : (wraps : List TypeModifier) (r : Resolved S N) (x : FieldError S) → own_error name is_leaf is_possible wraps r ≡ Some x → turns_at run is_possible wraps r ≡ 1
    answer-turns [] r x p = name-turns (out-Resolved S N r) x p
    answer-turns (modifier.NonNull ∷ wraps) r x p =
        required-turns (own_error name is_leaf is_possible wraps r) (turns_at run is_possible wraps r) (out-Resolved S N r) x (answer-turns wraps r x) p
    answer-turns (modifier.List size ∷ wraps) r x p = list-turns (modifier.List size ∷ wraps) _ (out-Resolved S N r) x p

    pub own-turns : (wraps : List TypeModifier) (answer : Result (Resolved S N) (FieldError S)) (x : FieldError S) → own_error_of name is_leaf is_possible wraps answer ≡ Some x
        → turns_of_result run is_possible wraps answer ≡ 1
    own-turns wraps (Ok r) x p = answer-turns wraps r x p
    own-turns wraps (Err e) x p = refl
