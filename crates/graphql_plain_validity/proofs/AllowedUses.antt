-- Variables stand in a plain document where they are allowed (GraphQL October 2021, 5.8.5 All Variable Usages Are Allowed).
use Rattle.std.proofs.Common.{◌≡◌, refl, sym, ◌∙◌, ap, subst, Bool, true, false, ◌&&◌, ◌||◌, not, List, [], ◌∷◌, map, Option, Some, None, cond}
use Rattle.std.specs.Prelude.{◌↔◌, IfSome}
use Rattle.std.specs.List.{All, filter}
use Rattle.std.specs.Option.{option_map}
use Rattle.std.specs.Str.{bytes_eq}
use Rattle.std.proofs.lemmas.Bool.{false≢true}
use Rattle.std.proofs.lemmas.Slice.Eq.{bytes_eq-Decides}
use Rattle.graphql_names.specs.Names.{Bytes, is_one_of, named}
use Rattle.graphql_scalars.specs.ScalarAnswers.{ScalarAnswer}
use Rattle.graphql_values.specs.InputValues.{Placed, unlocated, unlocated_layer}
use Rattle.graphql_values.specs.declared.input_value.InputValue.{InputValue}
use Rattle.graphql_values.proofs.InputValueEquations.{fold_null, fold_scalar, fold_enum, fold_variable, unlocated_list, unlocated_object}
use Rattle.graphql_values.proofs.InputValueInduction.{value_ind}
use Rattle.graphql_tree.specs.Documents.{variables_in}
use Rattle.graphql_tree.specs.Unlocated.{without_place}
use Rattle.graphql_tree.specs.Variables.{Variable}
use Rattle.graphql_schema.specs.declared.meta.MetaType.{MetaType}
use Rattle.graphql_schema.specs.Declarations.{Declarations}
use Rattle.graphql_schema.specs.Subtypes.{is_subtype}
use Rattle.graphql_occurrences.specs.Occurrences.{variable_part}
use Rattle.graphql_occurrences.specs.Parts.{InputPlace, Use, VariablePart}
use Rattle.graphql_occurrences.specs.Unlocated.{unlocated_variable_part}
use Rattle.graphql_rules_document.specs.Reached.{uses_from}
use Rattle.graphql_rules_document.specs.Scopes.{FragmentScope, OperationScope, fragment_scopes, operation_scope, operation_scopes}
use Rattle.graphql_rules_document.specs.VariablesInAllowedPosition.{variables_in_allowed_position_faults, has_value, is_allowed, is_value, with_null, without_null}
use Rattle.graphql_schema.specs.Types.{refuses_null}
use Rattle.graphql_rules_document.proofs.RuleLaws.{uses_allowed}
use Rattle.graphql_rules_document.proofs.ListItems.{all-from, all-of, only-one}
use Rattle.graphql_plain_tree.specs.PlainOperations.{PlainOperation, definitions_used, variables_used, without_directives}
use Rattle.graphql_plain_validity.specs.PlainRequests.{plain_of}
use Rattle.graphql_plain_validity.specs.VariableLaws.{UsesStayAllowed}
use Rattle.graphql_plain_validity.proofs.OneOperation.{defined-are, defined_in, of-one, scope-among}
use Rattle.graphql_plain_validity.proofs.UsesReached.{use-is-reached}

module _ {S : Type 0} where
  -- whether a default is a value does not depend on places
  same-value : (v : InputValue S) → is_value (unlocated v) ≡ is_value v
  same-value = value_ind (λ v. is_value (unlocated v) ≡ is_value v)
      (ap is_value (fold_null unlocated_layer))
      (λ s. ap is_value (fold_scalar unlocated_layer s))
      (λ n. ap is_value (fold_enum unlocated_layer n))
      (λ n. ap is_value (fold_variable unlocated_layer n))
      (λ xs each. ap is_value (unlocated_list xs))
      (λ ps each. ap is_value (unlocated_object ps))

  pub same-default : (o : Option (Placed (InputValue S)))
      → has_value (option_map (without_place unlocated) o) ≡ has_value o
  same-default None = refl
  same-default (Some v) = same-value v.item

  abbrev name_of : VariablePart S → Bytes
  name_of v = v.name.item

  abbrev bare : VariablePart S → VariablePart S
  bare = unlocated_variable_part

  named-bare : (vs : List (VariablePart S)) (name : Bytes)
      → named name_of (map bare vs) name ≡ option_map bare (named name_of vs name)
  named-bare [] name = refl
  named-bare (v ∷ vs) name =
      elim (bytes_eq v.name.item name) as
      (λ b. cond b (Some (bare v)) (named name_of (map bare vs) name) ≡ option_map bare
      (cond b (Some v) (named name_of vs name)))
      [ true ↦ refl | false ↦ named-bare vs name ]

  -- ---- of the definitions those that are used

  module _ (used : List Bytes) where
    abbrev keeps : Variable S → Bool
    keeps v = is_one_of used v.0.item

    abbrev kept : List (Variable S) → List (VariablePart S)
    kept vs = map variable_part (definitions_used used vs)

    -- a name that is not used is not defined
    dropped : (vs : List (Variable S)) (name : Bytes) → is_one_of used name ≡ false
        → named name_of (kept vs) name ≡ None
    dropped [] name e = refl
    dropped (v ∷ vs) name e =
        let cases : (b : Bool) → keeps v ≡ b → named name_of
        (map variable_part
        (map without_directives
        (cond b (v ∷ filter keeps vs) (filter keeps vs)))) name ≡ None = elim [
          | true ↦
              (λ t. let differs : (q : Bool) → bytes_eq v.0.item name ≡ q → cond q
              (Some (variable_part v)) (named name_of (kept vs) name) ≡ None = elim [
                | true ↦
                    (λ s. absurd
                    (false≢true
                    (sym e ∙ ap (is_one_of used) (sym ((bytes_eq-Decides v.0.item name).0 s)) ∙ t)))
                | false ↦ (λ s. dropped vs name e)
              ] in differs (bytes_eq v.0.item name) refl)
          | false ↦ (λ t. dropped vs name e)
        ] in cases (keeps v) refl

    -- what holds of the definition of a name holds of it where it is kept
    if-kept : (Q : VariablePart S → Type 0) (vs : List (Variable S)) (name : Bytes)
        → IfSome (named name_of (map variable_part vs) name) Q
        → IfSome (named name_of (kept vs) name) Q
    if-kept Q [] name = λ h. h
    if-kept Q (v ∷ vs) name =
        let cases : (q : Bool) → bytes_eq v.0.item name ≡ q → IfSome
        (cond q (Some (variable_part v)) (named name_of (map variable_part vs) name)) Q → IfSome
        (named name_of (kept (v ∷ vs)) name) Q = elim [
          | true ↦
              (λ s h. let kinds : (b : Bool) → keeps v ≡ b → IfSome
              (named name_of
              (map variable_part
              (map without_directives
              (cond b (v ∷ filter keeps vs) (filter keeps vs)))) name) Q = elim [
                | true ↦
                    (λ t. subst
                    (λ q. IfSome (cond q (Some (variable_part v)) (named name_of (kept vs) name)) Q)
                    (sym s) h)
                | false ↦
                    (λ t. subst (λ z. IfSome z Q)
                    (sym
                    (dropped vs name
                    (ap (is_one_of used) (sym ((bytes_eq-Decides v.0.item name).0 s)) ∙ t))) tt)
              ] in kinds (keeps v) refl)
          | false ↦
              (λ s h. let kinds : (b : Bool) → IfSome
              (named name_of
              (map variable_part
              (map without_directives
              (cond b (v ∷ filter keeps vs) (filter keeps vs)))) name) Q = elim [
                | true ↦ subst
                    (λ q. IfSome (cond q (Some (variable_part v)) (named name_of (kept vs) name)) Q)
                    (sym s) (if-kept Q vs name h)
                | false ↦ if-kept Q vs name h
              ] in kinds (keeps v))
        ] in cases (bytes_eq v.0.item name) refl

module _ {S C : Type 0} (types : List (MetaType S C)) where
  -- the variable is allowed in the place, where that is known
  abbrev AllowedAt : Option InputPlace → VariablePart S → Type 0
  AllowedAt at v = IfSome at (λ p. is_allowed types v p ≡ true)

  -- a use of the name is allowed, by the variables that are defined
  abbrev Allowed : List (VariablePart S) → Bytes → Option InputPlace → Type 0
  Allowed defined name at = IfSome (named name_of defined name) (AllowedAt at)

  same-allowed : (v : VariablePart S) (p : InputPlace)
      → is_allowed types (bare v) p ≡ is_allowed types v p
  same-allowed v p =
      ap (λ b. cond p.is_only_field (is_subtype types v.type_of.item (without_null p.asked))
      (cond (refuses_null p.asked && not (refuses_null v.type_of.item))
      ((b || p.has_default) && is_subtype types v.type_of.item (with_null p.asked))
      (is_subtype types v.type_of.item p.asked))) (same-default v.default)

  allowed-one : (v : VariablePart S) (at : Option InputPlace)
      → AllowedAt at v ↔ AllowedAt at (bare v)
  allowed-one v None = (λ h. tt, λ h. tt)
  allowed-one v (Some p) = (λ h. same-allowed v p ∙ h, λ h. sym (same-allowed v p) ∙ h)

  allowed-option : (o : Option (VariablePart S)) (at : Option InputPlace)
      → IfSome o (AllowedAt at) ↔ IfSome (option_map bare o) (AllowedAt at)
  allowed-option None at = (λ h. tt, λ h. tt)
  allowed-option (Some v) at = allowed-one v at

  -- by variables that are the same, places aside
  allowed-still : (us vs : List (VariablePart S)) → map bare us ≡ map bare vs
      → (name : Bytes) (at : Option InputPlace) → Allowed us name at → Allowed vs name at
  allowed-still us vs same name at h =
      let without : IfSome (named name_of (map bare us) name) (AllowedAt at) =
      subst (λ z. IfSome z (AllowedAt at)) (sym (named-bare us name))
      ((allowed-option (named name_of us name) at).0 h) in
      (allowed-option (named name_of vs name) at).1
      (subst (λ z. IfSome z (AllowedAt at)) (named-bare vs name)
      (subst (λ xs. IfSome (named name_of xs name) (AllowedAt at)) same without))

module _ {S C : Type 0} (answer : S → ScalarAnswer) (of_bool : Bool → S)
    (schema : Declarations S C) where
  pub uses-stay-allowed : UsesStayAllowed answer of_bool schema
  uses-stay-allowed document again is e =
      let types : List (MetaType S C) = schema.types in
      let fragments : List FragmentScope = fragment_scopes schema document in
      let Good : List FragmentScope → OperationScope S → Type 0 =
      λ fs o. All (λ u. Allowed types o.defined u.name u.at) (uses_from fs o) in
      of-one answer of_bool document
      (λ ds. variables_in_allowed_position_faults types (operation_scopes schema ds)
      (fragment_scopes schema ds) ≡ []) (λ x is same.
      let p : PlainOperation S = plain_of answer of_bool is in
      let vs : List (Variable S) = variables_in is.operation.item.variable_definitions in
      let own : Good fragments (operation_scope schema is.operation) =
      all-of (Good fragments) (operation_scopes schema document)
      ((uses_allowed types (operation_scopes schema document) fragments).0 e)
      (operation_scope schema is.operation) (scope-among answer of_bool document schema is) in
      let here : Good [] (operation_scope schema x) =
      all-from (λ u. Allowed types (defined_in x.item) u.name u.at)
      (uses_from [] (operation_scope schema x)) (λ u i.
      let v = use-is-reached schema answer of_bool document x is u i in
      let old : Allowed types (map variable_part vs) v.0.name v.0.at =
      all-of (λ u. Allowed types (map variable_part vs) u.name u.at)
      (uses_from fragments (operation_scope schema is.operation)) own v.0 v.1 in
      let still : Allowed types (defined_in x.item) v.0.name v.0.at =
      allowed-still types (map variable_part p.variables) (defined_in x.item)
      (defined-are answer of_bool document x is same) v.0.name v.0.at
      (if-kept (variables_used p.set) (AllowedAt types v.0.at) vs v.0.name old) in
      subst (λ (w : Use). Allowed types (defined_in x.item) w.name w.at) (sym v.2) still) in
      (uses_allowed types (operation_scope schema x ∷ []) []).1
      (all-from (Good []) (operation_scope schema x ∷ [])
      (λ o i. subst (Good []) (only-one (operation_scope schema x) o i) here))) again is
