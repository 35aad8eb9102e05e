-- A plain document is one operation, whose variables are those of the plain operation, places aside.
use Rattle.std.proofs.Common.{◌≡◌, refl, sym, ◌∙◌, ap, subst, Bool, List, [], ◌∷◌, map, Option, Some, None, arith}
use Rattle.std.specs.List.{Contains}
use Rattle.std.specs.Option.{option_map}
use Rattle.graphql_scalars.specs.ScalarAnswers.{ScalarAnswer}
use Rattle.graphql_values.specs.InputValues.{Placed, unplaced}
use Rattle.graphql_tree.specs.Definitions.{operation_in, operations_of}
use Rattle.graphql_tree.specs.Documents.{variables_in}
use Rattle.graphql_tree.specs.Unlocated.{unlocated_document, unlocated_name, unlocated_operation, unlocated_variable, unlocated_variables, without_place}
use Rattle.graphql_tree.specs.Variables.{Variable}
use Rattle.graphql_tree.specs.declared.document.Definition.{Definition}
use Rattle.graphql_tree.specs.declared.document.Definition.TheVariants as definition
use Rattle.graphql_tree.specs.declared.document.Operation.{Operation}
use Rattle.graphql_tree.specs.declared.variable.VariableDefinitions.{VariableDefinitions}
use Rattle.graphql_schema.specs.Declarations.{Declarations}
use Rattle.graphql_occurrences.specs.Occurrences.{variable_part}
use Rattle.graphql_occurrences.specs.Parts.{VariablePart}
use Rattle.graphql_occurrences.specs.Unlocated.{unlocated_variable_part}
use Rattle.graphql_rules_document.specs.Scopes.{operation_scope, operation_scopes}
use Rattle.graphql_rules_document.proofs.ListItems.{contains-map}
use Rattle.graphql_plain_tree.specs.PlainDocuments.{definitions_as, operation_as}
use Rattle.graphql_plain_tree.specs.PlainOperations.{PlainOperation}
use Rattle.graphql_plain_validity.specs.PlainRequests.{IsPlainDocument, plain_of}
use Rattle.graphql_plain_validity.proofs.EachItem.{flat-in}
use Rattle.graphql_plain_validity.proofs.PlainDocumentParts.{definitions-back}

module _ {S : Type 0} where
  -- a document that is one operation, places aside
  pub one : (again : List (Definition S)) (q : Operation S)
      → unlocated_document again ≡ unlocated_document (definition.Operation (unplaced q) ∷ [])
      → (x : Placed (Operation S)) × (again ≡ definition.Operation x ∷ [])
      × (unlocated_operation x.item ≡ unlocated_operation q)
  one [] q e = absurd (cc)
  one (definition.Fragment f ∷ ds) q e = absurd (cc)
  one (definition.Operation x ∷ (y ∷ ds)) q e = absurd (cc)
  one (definition.Operation x ∷ []) q e =
      let same : ◌≡◌ {A = Placed (Operation S)} (unplaced (unlocated_operation x.item))
      (unplaced (unlocated_operation q)) = cc in
      (x, refl, ap (λ (z : Placed (Operation S)). z.item) same)

  listed-bare : (xs : List (Variable S))
      → map unlocated_variable_part (map variable_part xs)
      ≡ map variable_part (map (λ (x : Variable S). (unlocated_name x.0, unlocated_variable x.1)) xs)
  listed-bare [] = refl
  listed-bare (x ∷ xs) = ap (λ vs. unlocated_variable_part (variable_part x) ∷ vs) (listed-bare xs)

  -- the variables of an operation without its places
  variables-bare : (o : Option (Placed (VariableDefinitions S)))
      → map unlocated_variable_part (map variable_part (variables_in o))
      ≡ map variable_part (variables_in (option_map (without_place unlocated_variables) o))
  variables-bare None = refl
  variables-bare (Some d) = listed-bare d.item.items

  -- the variables that an operation defines
  abbrev pub defined_in : Operation S → List (VariablePart S)
  defined_in o = map variable_part (variables_in o.variable_definitions)

  pub same-defined : (p : PlainOperation S) (x : Operation S)
      → unlocated_operation x ≡ unlocated_operation (operation_as p)
      → map unlocated_variable_part (map variable_part p.variables)
      ≡ map unlocated_variable_part (defined_in x)
  same-defined p x same =
      ap (λ ws. map unlocated_variable_part (map variable_part ws))
      (sym (definitions-back p.variables)) ∙ variables-bare (definitions_as p.variables)
      ∙ ap (λ (o : Operation S). defined_in o) (sym same)
      ∙ sym (variables-bare x.variable_definitions)

module _ {S : Type 0} (answer : S → ScalarAnswer) (of_bool : Bool → S)
    (document : List (Definition S)) where
  abbrev Is : List (Definition S) → Type 0
  Is = IsPlainDocument answer of_bool document

  -- the one operation of a plain document
  pub the-one : (again : List (Definition S)) (is : Is again)
      → (x : Placed (Operation S)) × (again ≡ definition.Operation x ∷ [])
      × (unlocated_operation x.item ≡ unlocated_operation (operation_as (plain_of answer of_bool is)))
  the-one again is = one again (operation_as (plain_of answer of_bool is)) is.same

  -- what is to hold of a plain document may be shown of one operation
  pub of-one : (Holds : List (Definition S) → Type 0)
      → ((x : Placed (Operation S)) (is : Is (definition.Operation x ∷ []))
      → unlocated_operation x.item ≡ unlocated_operation (operation_as (plain_of answer of_bool is))
      → Holds (definition.Operation x ∷ []))
      → (again : List (Definition S)) → Is again → Holds again
  of-one Holds h again is =
      let x = the-one again is in
      let moved : Is (definition.Operation x.0 ∷ []) =
      record {
        operation =
            is.operation;
        among =
            is.among;
        filled =
            is.filled;
        given = is.given;
        same = ap unlocated_document (sym x.1) ∙ is.same;
      } in
      subst Holds (sym x.1) (h x.0 moved x.2)

  -- places aside it defines the plain operation's variables
  pub defined-are : (x : Placed (Operation S)) (is : Is (definition.Operation x ∷ []))
      → unlocated_operation x.item ≡ unlocated_operation (operation_as (plain_of answer of_bool is))
      → map unlocated_variable_part (map variable_part (plain_of answer of_bool is).variables)
      ≡ map unlocated_variable_part (defined_in x.item)
  defined-are x is same = same-defined (plain_of answer of_bool is) x.item same

  -- its operation is among those of the request's document
  pub scope-among : {C : Type 0} (schema : Declarations S C) {again : List (Definition S)}
      (is : Is again)
      → Contains (operation_scopes schema document) (operation_scope schema is.operation)
  scope-among schema is =
      contains-map (operation_scope schema) (operations_of document) is.operation
      (flat-in operation_in document (definition.Operation is.operation) is.operation is.among
      (0, omega arith, refl))
