-- The names of the variables that an operation defines (GraphQL October 2021, 5.8.1 Variable Uniqueness).
use Rattle.std.proofs.Common.{◌≡◌, refl, sym, ◌∙◌, ap, subst, Bool, true, false, List, [], ◌∷◌, map, cond}
use Rattle.std.specs.List.{IsDistinct, filter}
use Rattle.std.specs.Str.{bytes_eq}
use Rattle.std.proofs.lemmas.Map.Made.{IsDistinct-keys_filter}
use Rattle.std.proofs.lemmas.Simd.{map-map}
use Rattle.graphql_names.specs.Names.{Bytes, is_one_of}
use Rattle.graphql_scalars.specs.ScalarAnswers.{ScalarAnswer}
use Rattle.graphql_tree.specs.Documents.{variables_in}
use Rattle.graphql_tree.specs.Variables.{Variable}
use Rattle.graphql_schema.specs.Declarations.{Declarations}
use Rattle.graphql_occurrences.specs.Occurrences.{variable_part}
use Rattle.graphql_occurrences.specs.Parts.{VariablePart}
use Rattle.graphql_occurrences.specs.Unlocated.{unlocated_variable_part}
use Rattle.graphql_rules_document.specs.Scopes.{OperationScope, operation_scope, operation_scopes}
use Rattle.graphql_rules_document.specs.UniqueVariableNames.{unique_variable_names_faults}
use Rattle.graphql_rules_document.proofs.RuleLaws.{distinct_variables}
use Rattle.graphql_rules_document.proofs.ListItems.{all-from, all-of, only-one}
use Rattle.graphql_plain_tree.specs.PlainOperations.{PlainOperation, definitions_used, variables_used, without_directives}
use Rattle.graphql_plain_validity.specs.PlainRequests.{plain_of}
use Rattle.graphql_plain_validity.specs.VariableLaws.{VariableNamesStayDistinct}
use Rattle.graphql_plain_validity.proofs.OneOperation.{defined-are, defined_in, of-one, scope-among}

-- to keep images by a test is to keep what they are images of
filter-map : {A B : Type 0} (f : A → B) (keep : B → Bool) (xs : List A)
    → filter keep (map f xs) ≡ map f (filter (λ x. keep (f x)) xs)
filter-map f keep [] = refl
filter-map f keep (x ∷ xs) =
    elim (keep (f x)) as
    (λ b. cond b (f x ∷ filter keep (map f xs)) (filter keep (map f xs)) ≡ map f
    (cond b (x ∷ filter (λ y. keep (f y)) xs) (filter (λ y. keep (f y)) xs)))
    [ true ↦ ap (λ ys. f x ∷ ys) (filter-map f keep xs) | false ↦ filter-map f keep xs ]

module _ {S : Type 0} where
  abbrev pub names_of : List (VariablePart S) → List Bytes
  names_of = map (λ v. v.name.item)

  pub names-bare : (vs : List (VariablePart S))
      → names_of (map unlocated_variable_part vs) ≡ names_of vs
  names-bare vs = map-map (λ (v : VariablePart S). v.name.item) unlocated_variable_part vs

  -- names that are kept by a test of names stay distinct
  kept-distinct : (names : List Bytes) (vs : List (Variable S))
      → IsDistinct bytes_eq (names_of (map variable_part vs))
      → IsDistinct bytes_eq (names_of (map variable_part (definitions_used names vs)))
  kept-distinct names vs h =
      let pair : Variable S → Bytes × Variable S = λ v. (v.0.item, v) in
      let keep : Bytes × Variable S → Bool = λ e. is_one_of names e.0 in
      let listed : (ws : List (Variable S)) → map (λ (e : Bytes × Variable S). e.0)
      (map pair ws) ≡ names_of (map variable_part ws) =
      λ ws. map-map (λ (e : Bytes × Variable S). e.0) pair ws
      ∙ sym (map-map (λ (v : VariablePart S). v.name.item) variable_part ws) in
      let kept : List (Variable S) = filter (λ v. is_one_of names v.0.item) vs in
      let bare : names_of (map variable_part (map without_directives kept)) ≡ names_of
      (map variable_part kept) =
      ap names_of (map-map variable_part without_directives kept)
      ∙ map-map (λ (v : VariablePart S). v.name.item)
      (λ w. variable_part (without_directives w)) kept
      ∙ sym (map-map (λ (v : VariablePart S). v.name.item) variable_part kept) in
      subst (IsDistinct bytes_eq)
      (ap (map (λ (e : Bytes × Variable S). e.0)) (filter-map pair keep vs) ∙ listed kept
      ∙ sym bare)
      (IsDistinct-keys_filter bytes_eq keep (map pair vs)
      (subst (IsDistinct bytes_eq) (sym (listed vs)) h))

module _ {S C : Type 0} (answer : S → ScalarAnswer) (of_bool : Bool → S)
    (schema : Declarations S C) where
  -- 5.8.1 Variable Uniqueness
  pub variable-names-stay : VariableNamesStayDistinct answer of_bool schema
  variable-names-stay document again is e =
      let Apart : OperationScope S → Type 0 =
      λ o. IsDistinct bytes_eq (map (λ v. v.name.item) o.defined) in
      of-one answer of_bool document (λ ds. unique_variable_names_faults (operation_scopes schema ds) ≡ [])
      (λ x is same.
      let p : PlainOperation S = plain_of answer of_bool is in
      let vs : List (Variable S) = variables_in is.operation.item.variable_definitions in
      let own : IsDistinct bytes_eq (names_of (map variable_part vs)) =
      all-of Apart (operation_scopes schema document)
      ((distinct_variables (operation_scopes schema document)).0 e)
      (operation_scope schema is.operation) (scope-among answer of_bool document schema is) in
      let names : names_of (map variable_part p.variables) ≡ names_of (defined_in x.item) =
      sym (names-bare (map variable_part p.variables))
      ∙ ap names_of (defined-are answer of_bool document x is same)
      ∙ names-bare (defined_in x.item) in
      let new : Apart (operation_scope schema x) =
      subst (IsDistinct bytes_eq) names (kept-distinct (variables_used p.set) vs own) in
      (distinct_variables (operation_scope schema x ∷ [])).1
      (all-from Apart (operation_scope schema x ∷ [])
      (λ o i. subst Apart (only-one (operation_scope schema x) o i) new))) again is
