-- The variables that a plain document defines are used (GraphQL October 2021, 5.8.4 All Variables Used).
use Rattle.std.proofs.Common.{◌≡◌, refl, sym, ◌∙◌, ap, subst, Bool, List, [], ◌∷◌, ◌++◌, map, append-nil}
use Rattle.std.specs.List.{All, Contains, flat_map}
use Rattle.std.specs.Option.{IsSome}
use Rattle.graphql_names.specs.Names.{Bytes}
use Rattle.graphql_scalars.specs.ScalarAnswers.{ScalarAnswer}
use Rattle.graphql_values.specs.InputValues.{Placed, unplaced}
use Rattle.graphql_tree.specs.Documents.{variables_in}
use Rattle.graphql_tree.specs.Variables.{Variable}
use Rattle.graphql_tree.specs.declared.document.Definition.{Definition}
use Rattle.graphql_tree.specs.declared.document.Definition.TheVariants as definition
use Rattle.graphql_tree.specs.declared.document.Operation.{Operation}
use Rattle.graphql_schema.specs.Declarations.{Declarations}
use Rattle.graphql_occurrences.specs.Lookups.{root_of}
use Rattle.graphql_occurrences.specs.Occurrences.{occurrences, operation_parts, set_parts, variable_part, variable_parts}
use Rattle.graphql_occurrences.specs.Parts.{Part, Use, VariablePart, VariableUsed}
use Rattle.graphql_occurrences.specs.Unlocated.{unlocated_part}
use Rattle.graphql_rules_document.specs.Reached.{uses_from}
use Rattle.graphql_rules_document.specs.Scopes.{OperationScope, fragment_scopes, operation_scope, operation_scopes, use_at}
use Rattle.graphql_rules_document.specs.NoUnusedVariables.{no_unused_variables_faults}
use Rattle.graphql_rules_document.proofs.RuleLaws.{variables_used as all_used}
use Rattle.graphql_rules.proofs.LawLemmas.{fields_declared, types_known}
use Rattle.graphql_rules_document.specs.Counted.{AreKnown, FieldTypesAreKnown}
use Rattle.graphql_rules_document.proofs.CountedSpreads.{known-left, known-right, root-among, value-of}
use Rattle.graphql_rules_document.proofs.ListItems.{all-from, contains-map, image-of, only-one}
use Rattle.graphql_plain_tree.specs.PlainDocuments.{definitions_as, document_of, operation_as, selections_of}
use Rattle.graphql_plain_tree.specs.PlainOperations.{PlainOperation, variables_used}
use Rattle.graphql_plain_validity.specs.PlainRequests.{IsPlainDocument, plain_of}
use Rattle.graphql_plain_validity.proofs.PartKinds.{like-use}
use Rattle.graphql_plain_validity.proofs.PlainDocumentParts.{same-parts}
use Rattle.graphql_plain_validity.specs.RuleLaws.{subject_of}
use Rattle.graphql_plain_validity.specs.VariableLaws.{VariablesStayUsed}
use Rattle.graphql_plain_validity.proofs.LocalRules.{declared-fields-stay, types-stay-known}
use Rattle.graphql_plain_validity.proofs.VariableNames.{names-bare, names_of}
use Rattle.graphql_plain_validity.proofs.OneOperation.{defined_in, same-defined, the-one}
use Rattle.graphql_plain_validity.proofs.UsedDefinitions.{defined-is-used}
use Rattle.graphql_plain_validity.proofs.UsesReached.{use-in}
use Rattle.graphql_plain_validity.proofs.UsesThere.{HasUse, tree-uses, use-left, use-right}

module _ {S C : Type 0} (schema : Declarations S C) where
  -- a use stands also in a document that is the same, places aside
  use-moved : (p again : List (Definition S))
      → map unlocated_part (occurrences schema p) ≡ map unlocated_part (occurrences schema again)
      → (n : Bytes) → HasUse (occurrences schema p) n → HasUse (occurrences schema again) n
  use-moved p again same n u =
      let there = contains-map unlocated_part (occurrences schema p) (VariableUsed u.0) u.1 in
      let y =
      image-of unlocated_part (occurrences schema again) (unlocated_part (VariableUsed u.0))
      (subst (λ ps. Contains ps (unlocated_part (VariableUsed u.0))) same there) in
      let v = like-use y.0 u.0 (sym y.2) in (
        v.0,
        subst (Contains (occurrences schema again)) v.1 y.1,
        sym (ap (λ (w : Use). w.name) v.2)
            ∙ u.2,
      )

  in-occurrences : (o : Placed (Operation S)) (n : Bytes) → HasUse (operation_parts schema o.item) n
      → HasUse (occurrences schema (definition.Operation o ∷ [])) n
  unfolding occurrences
  in-occurrences o n u = use-left (operation_parts schema o.item) [] n u

  from-occurrences : (o : Placed (Operation S)) (n : Bytes)
      → HasUse (occurrences schema (definition.Operation o ∷ [])) n
      → HasUse (operation_parts schema o.item) n
  unfolding occurrences
  from-occurrences o n u = subst (λ ps. HasUse ps n) (append-nil (operation_parts schema o.item)) u

  known-operation : (o : Placed (Operation S))
      → AreKnown schema (occurrences schema (definition.Operation o ∷ []))
      → AreKnown schema (operation_parts schema o.item)
  unfolding occurrences
  known-operation o k = known-left schema (operation_parts schema o.item) [] k

  -- the names of the uses of one operation
  use-named : (x : Placed (Operation S)) (n : Bytes) → HasUse (operation_parts schema x.item) n
      → Contains (map (λ u. u.name) (uses_from [] (operation_scope schema x))) n
  use-named x n u =
      let own = flat_map use_at (operation_parts schema x.item) in
      subst (Contains (map (λ u. u.name) (uses_from [] (operation_scope schema x)))) u.2
      (contains-map (λ (w : Use). w.name) (uses_from [] (operation_scope schema x)) u.0
      (subst (λ us. Contains us u.0) (sym (append-nil own))
      (use-in (operation_parts schema x.item) u.0 u.1)))

  module _ (answer : S → ScalarAnswer) (of_bool : Bool → S)
      (closed : FieldTypesAreKnown schema) where
    abbrev Is : List (Definition S) → List (Definition S) → Type 0
    Is = IsPlainDocument answer of_bool

    -- the plain operation itself
    plain-itself : (document again : List (Definition S)) (is : Is document again)
        → Is document (document_of (plain_of answer of_bool is))
    plain-itself document again is =
        record { operation = is.operation; among = is.among; filled = is.filled; given = is.given; same = refl }

    module _ (document again : List (Definition S)) (is : Is document again)
        (root : IsSome (root_of schema is.operation.item.operation_type))
        (known : AreKnown schema
        (occurrences schema (document_of (plain_of answer of_bool is)))) where
      abbrev p : PlainOperation S
      p = plain_of answer of_bool is

      -- each variable that the plain set uses is used by the plain operation
      operation-uses : (n : Bytes) → Contains (variables_used p.set) n
          → HasUse (operation_parts schema (operation_as p)) n
      operation-uses n i =
          let m = value-of (root_of schema p.operation_type) root in
          let front : List (Part S C) =
          flat_map (variable_parts schema) (variables_in (definitions_as p.variables)) ++ [] in
          let set = set_parts schema (root_of schema p.operation_type) (selections_of p.set) in
          let own : AreKnown schema (front ++ set) =
          known-operation (unplaced (operation_as p)) known in
          let inner : AreKnown schema set = known-right schema front set own in
          use-right front set n
          (subst (λ s. HasUse (set_parts schema s (selections_of p.set)) n) (sym m.1)
          (tree-uses schema closed p.set m.0 (root-among schema p.operation_type m.0 m.1)
          (subst (λ s. AreKnown schema (set_parts schema s (selections_of p.set))) m.1 inner) n i))

      again-uses : (n : Bytes) → Contains (variables_used p.set) n
          → HasUse (occurrences schema again) n
      again-uses n i =
          use-moved (document_of p) again (sym (same-parts schema (document_of p) again is.same)) n
          (in-occurrences (unplaced (operation_as p)) n (operation-uses n i))

    pub variables-stay-used : VariablesStayUsed answer of_bool schema
    variables-stay-used document again is root fields types =
        let plain : List (Definition S) = document_of (plain_of answer of_bool is) in
        let itself : Is document plain = plain-itself document again is in
        let known : AreKnown schema (occurrences schema plain) = record {
          fields = (fields_declared (subject_of schema plain) (occurrences schema plain)).0
              (declared-fields-stay answer of_bool schema document plain itself fields);
          conditions =
              ((types_known (subject_of schema plain) (occurrences schema plain)).0
              (types-stay-known answer of_bool schema document plain itself types)).1;
        } in
        let p : PlainOperation S = plain_of answer of_bool is in
        let x = the-one answer of_bool document again is in
        let vs : List (Variable S) = variables_in is.operation.item.variable_definitions in
        let scope : OperationScope S = operation_scope schema x.0 in
        let Good : OperationScope S → Type 0 =
        λ o. All (λ v. Contains (map (λ u. u.name) (uses_from [] o)) v.name.item) o.defined in
        let moved : names_of (map variable_part p.variables) ≡ names_of (defined_in x.0.item) =
        sym (names-bare (map variable_part p.variables)) ∙ ap names_of (same-defined p x.0.item x.2)
        ∙ names-bare (defined_in x.0.item) in
        let used : (v : VariablePart S) → Contains (defined_in x.0.item) v → Contains
        (map (λ u. u.name) (uses_from [] scope)) v.name.item = λ v i.
        let n : Bytes = v.name.item in
        let before : Contains (names_of (map variable_part p.variables)) n =
        subst (λ ns. Contains ns n) (sym moved)
        (contains-map (λ (q : VariablePart S). q.name.item) (defined_in x.0.item) v i) in
        let there =
        again-uses document again is root known n
        (defined-is-used (variables_used p.set) vs n before) in
        use-named x.0 n
        (from-occurrences x.0 n (subst (λ ds. HasUse (occurrences schema ds) n) x.1 there)) in
        subst (λ ds. no_unused_variables_faults (operation_scopes schema ds) (fragment_scopes schema ds) ≡ [])
        (sym x.1)
        ((all_used (scope ∷ []) []).1
        (all-from Good (scope ∷ [])
        (λ o i. subst Good (only-one scope o i)
        (all-from (λ v. Contains (map (λ u. u.name) (uses_from [] scope)) v.name.item)
        (defined_in x.0.item) used))))
