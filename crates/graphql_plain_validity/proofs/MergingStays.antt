-- Where the sets of a document merge those of its plain document do.
use Rattle.std.proofs.Common.{◌≡◌, refl, sym, ◌∙◌, ap, subst, arith, Bool, List, [], ◌∷◌, append-nil}
use Rattle.std.specs.Cmp.{IsEquivalence}
use Rattle.std.specs.List.{All, Contains}
use Rattle.graphql_scalars.specs.ScalarAnswers.{ScalarAnswer}
use Rattle.graphql_values.specs.InputValues.{Placed}
use Rattle.graphql_tree.specs.Definitions.{fragments_listed}
use Rattle.graphql_tree.specs.declared.document.Definition.{Definition}
use Rattle.graphql_tree.specs.declared.document.Definition.TheVariants as definition
use Rattle.graphql_tree.specs.declared.document.Operation.{Operation}
use Rattle.graphql_tree.specs.declared.document.OperationType.{OperationType}
use Rattle.graphql_schema.specs.Declarations.{Declarations}
use Rattle.graphql_occurrences.specs.DeclaredLookups.{root_of}
use Rattle.graphql_written_out.specs.Conditions.{left_out}
use Rattle.graphql_written_out.specs.Trees.{Tree}
use Rattle.graphql_written_out.specs.Written.{written}
use Rattle.graphql_merging.specs.Members.{Scope, members}
use Rattle.graphql_merging.specs.Merging.{Merging}
use Rattle.graphql_merging.specs.Sets.{Set, definition_sets, document_sets, members_of, set_of, sets_of}
use Rattle.graphql_merging.proofs.Nested.{nested-sets-follow}
use Rattle.graphql_rules_document.proofs.ListItems.{all-of, contains-map}
use Rattle.graphql_moved.specs.UnlocatedTrees.{unlocated_tree}
use Rattle.graphql_moved.proofs.UnlocatedWritten.{same-written, unplaced-unlocated}
use Rattle.graphql_plain_tree.specs.PlainDocuments.{selections_of}
use Rattle.graphql_plain_tree.specs.PlainOperations.{PlainOperation}
use Rattle.graphql_plain_tree.specs.StandIns.{skip_true}
use Rattle.graphql_plain_tree.proofs.DocumentSets.{document-is-its-tree}
use Rattle.graphql_plain_laws.proofs.PlainMembers.{merging-plain}
use Rattle.graphql_plain_validity.specs.PlainRequests.{plain_of}
use Rattle.graphql_plain_validity.proofs.EachItem.{flat-in}
use Rattle.graphql_plain_validity.proofs.OneOperation.{of-one}
use Rattle.graphql_plain_validity.specs.MergingLaws.{FieldsMerge, FieldsStayMerging}
use Rattle.graphql_plain_validity.proofs.MergingWithoutPlaces.{merging-without-places}

module _ {S C : Type 0} (eq : S → S → Bool) (laws : IsEquivalence eq) (answer : S → ScalarAnswer)
    (of_bool : Bool → S) (schema : Declarations S C) where
  abbrev Merged : Scope S C → Tree S → Type 0
  Merged scope t = Merging eq schema.types (members schema.types scope t)

  -- the set of an operation merges
  operation-merges : (document : List (Definition S)) (o : Placed (Operation S))
      → Contains document (definition.Operation o) → FieldsMerge eq schema document
      → Merged (root_of schema o.item.operation_type) (written (fragments_listed document) o.item.selection_set)
  operation-merges document o among h =
      let fragments = fragments_listed document in
      let set : Set S C = set_of schema fragments (definition.Operation o) in
      let there : Contains (document_sets schema document) set =
      flat-in (sets_of schema.types) (definition_sets schema document) set set
      (contains-map (set_of schema fragments) document (definition.Operation o) among)
      (0, omega arith, refl) in
      all-of (λ (s : Set S C). Merging eq schema.types (members_of schema.types s))
      (document_sets schema document) h set there

  -- the sets of a document that is one operation
  one-merges : (x : Placed (Operation S))
      → Merged (root_of schema x.item.operation_type) (written [] x.item.selection_set)
      → FieldsMerge eq schema (definition.Operation x ∷ [])
  one-merges x h =
      let set : Set S C = set_of schema [] (definition.Operation x) in
      subst (All (λ (s : Set S C). Merging eq schema.types (members_of schema.types s)))
      (sym (append-nil (sets_of schema.types set))) (nested-sets-follow S C eq schema.types set h)

  pub fields-stay-merging : FieldsStayMerging eq schema answer of_bool
  fields-stay-merging document again is h =
      of-one answer of_bool document (FieldsMerge eq schema) (λ x is same.
      let p : PlainOperation S = plain_of answer of_bool is in
      let o : Operation S = is.operation.item in
      let fragments = fragments_listed document in
      let plain : Merged (root_of schema o.operation_type) p.set =
      merging-plain schema.types (left_out answer is.given) (skip_true of_bool) eq
      (root_of schema o.operation_type) (written fragments o.selection_set)
      (operation-merges document is.operation is.among h) in
      let type : o.operation_type ≡ x.item.operation_type =
      sym (ap (λ (q : Operation S). q.operation_type) same) in
      let set : unlocated_tree p.set ≡ unlocated_tree (written [] x.item.selection_set) =
      sym (unplaced-unlocated p.set) ∙ sym
      (ap unlocated_tree (document-is-its-tree answer of_bool is.given fragments o is.filled))
      ∙ same-written (selections_of p.set) x.item.selection_set
      (sym (ap (λ (q : Operation S). q.selection_set) same)) in
      one-merges x
      (merging-without-places S C eq laws schema.types (root_of schema x.item.operation_type) p.set
      (written [] x.item.selection_set) set
      (subst (λ (t : OperationType). Merged (root_of schema t) p.set) type plain))) again is
