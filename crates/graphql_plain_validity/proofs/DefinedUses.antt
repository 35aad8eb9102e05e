-- The variables that a plain document uses are defined (GraphQL October 2021, 5.8.3 All Variable Uses Defined).
use Rattle.std.proofs.Common.{◌≡◌, sym, ◌∙◌, ap, subst, Bool, List, [], ◌∷◌, ◌++◌, map}
use Rattle.std.specs.List.{All, AllByRecursion as Each, Contains, flat_map}
use Rattle.graphql_names.specs.Names.{Bytes}
use Rattle.graphql_scalars.specs.ScalarAnswers.{ScalarAnswer, boolean}
use Rattle.graphql_tree.specs.Definitions.{fragments_listed}
use Rattle.graphql_tree.specs.Documents.{variables_in}
use Rattle.graphql_tree.specs.Variables.{Variable}
use Rattle.graphql_tree.specs.declared.document.Definition.{Definition}
use Rattle.graphql_tree.specs.declared.document.Definition.TheVariants as definition
use Rattle.graphql_schema.specs.Declarations.{Declarations}
use Rattle.graphql_occurrences.specs.Lookups.{root_of}
use Rattle.graphql_occurrences.specs.Occurrences.{occurrences, operation_parts, set_parts, variable_part, variable_parts}
use Rattle.graphql_occurrences.specs.Parts.{Part, Use, VariableUsed}
use Rattle.graphql_occurrences.specs.Unlocated.{unlocated_part}
use Rattle.graphql_rules_document.specs.Reached.{uses_from}
use Rattle.graphql_rules_document.specs.Scopes.{FragmentScope, OperationScope, fragment_scopes, operation_scope, operation_scopes}
use Rattle.graphql_rules_document.specs.NoUndefinedVariables.{no_undefined_variables_faults}
use Rattle.graphql_rules_document.proofs.RuleLaws.{uses_defined}
use Rattle.graphql_rules_document.proofs.ListItems.{all-from, all-of, only-one}
use Rattle.graphql_written_out.specs.Written.{written}
use Rattle.graphql_plain_tree.specs.PlainDocuments.{definitions_as, document_of, operation_as, selections_of}
use Rattle.graphql_plain_tree.specs.PlainOperations.{PlainOperation, variables_used}
use Rattle.graphql_plain_validity.specs.PlainRequests.{IsPlainDocument, plain_of}
use Rattle.graphql_plain_validity.proofs.EachItem.{each-append, each-flat}
use Rattle.graphql_plain_validity.proofs.PartKinds.{like-use}
use Rattle.graphql_plain_validity.proofs.PlainDocumentParts.{definitions-back, same-documents}
use Rattle.graphql_plain_validity.specs.VariableLaws.{DefaultsAreConstant, UsesStayDefined}
use Rattle.graphql_plain_validity.proofs.VariableNames.{names-bare, names_of}
use Rattle.graphql_plain_validity.proofs.OneOperation.{defined-are, defined_in, of-one, scope-among}
use Rattle.graphql_plain_validity.proofs.UsedDefinitions.{still-defined, used-from}
use Rattle.graphql_plain_validity.proofs.UsedNames.{Named, plain-named, variable-parts-named}
use Rattle.graphql_plain_validity.proofs.UsesReached.{in-one, own-use, use-is-reached}

module _ {S C : Type 0} (answer : S → ScalarAnswer) (of_bool : Bool → S)
    (answers : (b : Bool) → answer (of_bool b) ≡ boolean b) (schema : Declarations S C) where
  -- the name of a use does not depend on places
  named-still : (names : List Bytes) (x z : Part S C) → unlocated_part x ≡ unlocated_part z
      → Named schema names x → Named schema names z
  named-still names x (VariableUsed u) e h =
      let v = like-use x u (sym e) in
      subst (Contains names) (sym (ap (λ (w : Use). w.name) v.2)) (subst (Named schema names) v.1 h)
  named-still names x _ e h = tt

  module _ (document again : List (Definition S))
      (is : IsPlainDocument answer of_bool document again)
      (constant : DefaultsAreConstant document) where
    abbrev p : PlainOperation S
    p = plain_of answer of_bool is

    abbrev names : List Bytes
    names = variables_used p.set

    abbrev defined : List (Variable S)
    defined = variables_in is.operation.item.variable_definitions

    variables-named : Each (Named schema names) (flat_map (variable_parts schema) p.variables)
    variables-named = each-flat (Named schema names) (variable_parts schema) p.variables (λ w i.
        let v = used-from names defined w i in
        subst (λ x. Each (Named schema names) (variable_parts schema x)) v.2
        (variable-parts-named schema names v.0 (λ x e. constant is.operation is.among v.0 v.1 x e)))

    operation-named : Each (Named schema names) (operation_parts schema (operation_as p))
    operation-named =
        let variables : List (Part S C) =
        flat_map (variable_parts schema) (variables_in (definitions_as p.variables)) in
        each-append (Named schema names) (variables ++ [])
        (set_parts schema (root_of schema p.operation_type) (selections_of p.set))
        (each-append (Named schema names) variables []
        (subst (λ ws. Each (Named schema names) (flat_map (variable_parts schema) ws))
        (sym (definitions-back p.variables)) variables-named) tt)
        (plain-named schema answer of_bool answers is.given
        (written (fragments_listed document) is.operation.item.selection_set)
        (root_of schema p.operation_type) is.filled)

    -- each use in the plain document has a name that its plain set uses
    pub uses-named : (z : Part S C) → Contains (occurrences schema again) z → Named schema names z
    unfolding occurrences
    uses-named =
        same-documents schema (Named schema names) (named-still names) (document_of p) again is.same
        (each-append (Named schema names)
        (operation_parts schema (operation_as p)) [] operation-named tt)

  pub uses-stay-defined : UsesStayDefined answer of_bool schema
  uses-stay-defined document again is constant e =
      let fragments : List FragmentScope = fragment_scopes schema document in
      let Good : List FragmentScope → OperationScope S → Type 0 =
      λ fs o. All (λ u. Contains (map (λ v. v.name.item) o.defined) u.name) (uses_from fs o) in
      of-one answer of_bool document
      (λ ds. no_undefined_variables_faults (operation_scopes schema ds) (fragment_scopes schema ds) ≡ [])
      (λ x is same.
      let q : PlainOperation S = plain_of answer of_bool is in
      let vs : List (Variable S) = variables_in is.operation.item.variable_definitions in
      let one : List (Definition S) = definition.Operation x ∷ [] in
      let own : Good fragments (operation_scope schema is.operation) =
      all-of (Good fragments) (operation_scopes schema document)
      ((uses_defined (operation_scopes schema document) fragments).0 e)
      (operation_scope schema is.operation) (scope-among answer of_bool document schema is) in
      let moved : names_of (map variable_part q.variables) ≡ names_of (defined_in x.item) =
      sym (names-bare (map variable_part q.variables))
      ∙ ap names_of (defined-are answer of_bool document x is same)
      ∙ names-bare (defined_in x.item) in
      let here : Good [] (operation_scope schema x) =
      all-from (λ u. Contains (names_of (defined_in x.item)) u.name)
      (uses_from [] (operation_scope schema x)) (λ u i.
      let v = use-is-reached schema answer of_bool document x is u i in
      let name : u.name ≡ v.0.name = ap (λ (w : Use). w.name) v.2 in
      let before : Contains (names_of (map variable_part vs)) u.name =
      subst (Contains (names_of (map variable_part vs))) (sym name)
      (all-of (λ u. Contains (names_of (map variable_part vs)) u.name)
      (uses_from fragments (operation_scope schema is.operation)) own v.0 v.1) in
      let used : Contains (variables_used q.set) u.name =
      uses-named document one is constant (VariableUsed u)
      (in-one schema x (VariableUsed u) (own-use schema x u i)) in
      subst (λ ns. Contains ns u.name) moved
      (still-defined (variables_used q.set) vs u.name used before)) in
      (uses_defined (operation_scope schema x ∷ []) []).1
      (all-from (Good []) (operation_scope schema x ∷ [])
      (λ o i. subst (Good []) (only-one (operation_scope schema x) o i) here))) again is
