-- Which operation is executed does not depend on values of variables that its plain set does not use.
use Rattle.std.proofs.Common.{◌≡◌, refl, sym, ◌∙◌, ap, subst, List, [], ◌∷◌, Option}
use Rattle.std.specs.List.{Contains}
use Rattle.graphql_names.specs.Names.{Bytes}
use Rattle.graphql_values.specs.InputValues.{Placed}
use Rattle.graphql_values.specs.declared.input_value.InputValue.{InputValue}
use Rattle.graphql_tree.specs.Definitions.{fragments_listed, operations_of}
use Rattle.graphql_tree.specs.Documents.{variables_in}
use Rattle.graphql_tree.specs.Unlocated.{unlocated_document, unlocated_operation}
use Rattle.graphql_tree.specs.Variables.{Variable}
use Rattle.graphql_tree.specs.declared.document.Definition.{Definition}
use Rattle.graphql_tree.specs.declared.document.Operation.{Operation}
use Rattle.graphql_written_out.specs.FinalValues.{final_value, variable_name}
use Rattle.graphql_schema.specs.declared.meta.MetaType.{MetaType}
use Rattle.graphql_rules_document.proofs.ListItems.{contains-map, image-of, only-one}
use Rattle.graphql_variable_checks.specs.Accepted.{AreAccepted, FitsVariable}
use Rattle.graphql_plain_tree.specs.PlainDocuments.{document_of, operation_as}
use Rattle.graphql_plain_tree.specs.PlainOperations.{PlainOperation, definitions_used, plain_operation, variables_used}
use Rattle.graphql_plain_validity.proofs.OneOperation.{one}
use Rattle.graphql_plain_validity.proofs.UsedDefinitions.{used-from}
use Rattle.graphql_plain_validity.proofs.UsedNames.{among}
use Rattle.graphql_moved.proofs.UnlocatedDefinitions.{unlocated_defined, unlocated_definitions}
use Rattle.graphql_schema.specs.Scalars.{Scalars}
use Rattle.graphql_plain_requests.specs.AcceptedAgain.{AreEqualOn}
use Rattle.graphql_plain_requests.specs.Laws.{UnusedValuesAreNotAsked}
use Rattle.graphql_plain_requests.proofs.AcceptedValues.{definitions-again}

module _ {S : Type 0} where
  -- the operations of a document that is one operation, places aside, are that one
  lone : (again : List (Definition S)) (p : PlainOperation S)
      → unlocated_document again ≡ unlocated_document (document_of p)
      → (x : Placed (Operation S)) → Contains (operations_of again) x
      → unlocated_operation x.item ≡ unlocated_operation (operation_as p)
  lone again p same x i =
      let it = one again (operation_as p) same in
      let here : it.0 ≡ x =
      only-one it.0 x (subst (λ (d : List (Definition S)). Contains (operations_of d) x) it.1 i) in
      ap (λ (z : Placed (Operation S)). unlocated_operation z.item) (sym here) ∙ it.2

  -- what it defines is used
  defined-used : (p : PlainOperation S) (names : List Bytes) (vs : List (Variable S)) (x : Operation S)
      → p.variables ≡ definitions_used names vs
      → unlocated_operation x ≡ unlocated_operation (operation_as p)
      → (w : Variable S) → Contains (variables_in x.variable_definitions) w
      → Contains names (variable_name w)
  defined-used p names vs x are same w i =
      let alike : unlocated_definitions (variables_in x.variable_definitions)
      ≡ unlocated_definitions (definitions_used names vs) =
      definitions-again p x same ∙ ap unlocated_definitions are in
      let v = image-of unlocated_defined (definitions_used names vs) (unlocated_defined w)
      (subst (λ (us : List (Variable S)). Contains us (unlocated_defined w)) alike
      (contains-map unlocated_defined (variables_in x.variable_definitions) w i)) in
      let u = used-from names vs v.0 v.1 in
      subst (Contains names)
      (ap (λ (z : Variable S). variable_name z) u.2 ∙ ap (λ (z : Variable S). variable_name z) v.2)
      (among names (variable_name u.0) u.3)

module _ {S C : Type 0} (scalars : Scalars S C)
    (types : List (MetaType S C)) where
  taken-too : (given others : Bytes → Option (InputValue S)) (p : PlainOperation S) (names : List Bytes)
      (vs : List (Variable S)) (x : Operation S) → p.variables ≡ definitions_used names vs
      → unlocated_operation x ≡ unlocated_operation (operation_as p) → AreEqualOn given others names
      → AreAccepted scalars types given (variables_in x.variable_definitions)
      → AreAccepted scalars types others (variables_in x.variable_definitions)
  taken-too given others p names vs x are same equal accepted w i is_known =
      subst (λ o. FitsVariable scalars types w o)
      (sym (equal (variable_name w) (defined-used p names vs x are same w i)))
      (accepted w i is_known)

module _ {S C : Type 0} (s : Scalars S C) where
  pub unused-values-are-not-asked : UnusedValuesAreNotAsked s
  unused-values-are-not-asked given others document o again x pair equal
      schema introspection_disabled text name executable =
      let definitions = variables_in o.variable_definitions in
      let p : PlainOperation S =
      plain_operation s.answer s.of_bool (final_value given definitions) (fragments_listed document) o in
      record {
        read = executable.read;
        ready = record {
          chosen = executable.ready.chosen;
          takes_values =
              taken-too s schema.types given others p (variables_used p.set)
              definitions x.item refl (lone again p pair.same x pair.among) equal
              executable.ready.takes_values;
          root = executable.ready.root;
          served = executable.ready.served;
        };
      }
