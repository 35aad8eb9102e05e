-- Which values are taken for the variables of an operation does not depend on places, and the
-- definitions of the variables that are still used take what all of them take.
use Rattle.std.proofs.Common.{◌≡◌, sym, ◌∙◌, ap, subst, not, ◌||◌, Bool, List, Option, Some, None}
use Rattle.std.specs.List.{Contains}
use Rattle.std.specs.Option.{is_some}
use Rattle.graphql_names.specs.Names.{Bytes}
use Rattle.graphql_values.specs.InputValues.{unlocated}
use Rattle.graphql_values.specs.declared.input_value.InputValue.{InputValue}
use Rattle.graphql_tree.specs.Documents.{variables_in}
use Rattle.graphql_tree.specs.Unlocated.{unlocated_operation, without_place}
use Rattle.graphql_tree.specs.Variables.{Variable}
use Rattle.graphql_tree.specs.declared.document.Operation.{Operation}
use Rattle.graphql_written_out.specs.FinalValues.{variable_name}
use Rattle.graphql_schema.specs.Scalars.{Scalars}
use Rattle.graphql_schema.specs.declared.meta.MetaType.{MetaType}
use Rattle.graphql_schema.specs.Types.{refuses_null}
use Rattle.graphql_rules_document.proofs.ListItems.{contains-map, image-of}
use Rattle.graphql_variable_checks.specs.Accepted.{AreAccepted, FitsVariable, IsAccepted, variable_type}
use Rattle.graphql_plain_tree.specs.PlainDocuments.{operation_as}
use Rattle.graphql_plain_tree.specs.PlainOperations.{PlainOperation, definitions_used, without_directives}
use Rattle.graphql_plain_validity.proofs.PlainDocumentParts.{definitions-back}
use Rattle.graphql_plain_validity.proofs.UsedDefinitions.{used-from}
use Rattle.graphql_moved.proofs.MovedWritten.{some-moved}
use Rattle.graphql_moved.proofs.UnlocatedDefinitions.{unlocated_defined, unlocated_definitions, variables-alike}

module _ {S : Type 0} where
  pub definitions-again : (p : PlainOperation S) (x : Operation S)
      → unlocated_operation x ≡ unlocated_operation (operation_as p)
      → unlocated_definitions (variables_in x.variable_definitions)
      ≡ unlocated_definitions p.variables
  definitions-again p x same =
      variables-alike x (operation_as p) same
      ∙ ap unlocated_definitions (definitions-back p.variables)

module _ {S C : Type 0} (scalars : Scalars S C)
    (types : List (MetaType S C)) where
  abbrev Fits : Variable S → Option (InputValue S) → Type 0
  Fits = FitsVariable scalars types

  abbrev Accepted : (Bytes → Option (InputValue S)) → List (Variable S) → Type 0
  Accepted = AreAccepted scalars types

  absent-alike : (v : Variable S)
      → (not (refuses_null (variable_type v)) || is_some (unlocated_defined v).1.default_value)
      ≡ (not (refuses_null (variable_type v)) || is_some v.1.default_value)
  absent-alike v =
      ap (λ (b : Bool). not (refuses_null (variable_type v)) || b)
      (some-moved (without_place unlocated) v.1.default_value)

  fits-unlocated : (v : Variable S) (o : Option (InputValue S)) → Fits v o
      → Fits (unlocated_defined v) o
  fits-unlocated v (Some value) h = h
  fits-unlocated v None h = absent-alike v ∙ h

  fits-placed : (v : Variable S) (o : Option (InputValue S)) → Fits (unlocated_defined v) o
      → Fits v o
  fits-placed v (Some value) h = h
  fits-placed v None h = sym (absent-alike v) ∙ h

  fits-without : (v : Variable S) (o : Option (InputValue S)) → Fits v o
      → Fits (without_directives v) o
  fits-without v (Some value) h = h
  fits-without v None h = h

  -- definitions that are the same but for places take the same values
  pub accepted-alike : (given : Bytes → Option (InputValue S)) (vs ws : List (Variable S))
      → unlocated_definitions vs ≡ unlocated_definitions ws → Accepted given vs → Accepted given ws
  accepted-alike given vs ws alike accepted w i is_known =
      let v = image-of unlocated_defined vs (unlocated_defined w)
      (subst (λ (us : List (Variable S)). Contains us (unlocated_defined w)) (sym alike)
      (contains-map unlocated_defined ws w i)) in
      let before : IsAccepted scalars types given (unlocated_defined v.0) = λ h.
      fits-unlocated v.0 (given (variable_name v.0)) (accepted v.0 v.1 h) in
      fits-placed w (given (variable_name w))
      (subst (λ (u : Variable S). IsAccepted scalars types given u) v.2 before is_known)

  accepted-used : (given : Bytes → Option (InputValue S)) (names : List Bytes)
      (vs : List (Variable S)) → Accepted given vs → Accepted given (definitions_used names vs)
  accepted-used given names vs accepted w i =
      let v = used-from names vs w i in
      let before : IsAccepted scalars types given (without_directives v.0) = λ h.
      fits-without v.0 (given (variable_name v.0)) (accepted v.0 v.1 h) in
      subst (λ (u : Variable S). IsAccepted scalars types given u) v.2 before

  -- so do those of used names, places and directives aside
  pub accepted-again : (given : Bytes → Option (InputValue S)) (p : PlainOperation S)
      (names : List Bytes) (vs : List (Variable S)) (x : Operation S)
      → p.variables ≡ definitions_used names vs
      → unlocated_operation x ≡ unlocated_operation (operation_as p)
      → Accepted given vs → Accepted given (variables_in x.variable_definitions)
  accepted-again given p names vs x are same accepted =
      accepted-alike given (definitions_used names vs) (variables_in x.variable_definitions)
      (sym (definitions-again p x same ∙ ap unlocated_definitions are))
      (accepted-used given names vs accepted)
