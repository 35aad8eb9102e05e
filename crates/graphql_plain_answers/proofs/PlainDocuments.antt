-- A document that is a plain operation's but for places has its set, and gives the variables that
use Rattle.std.proofs.Common.{◌≡◌, refl, sym, ◌∙◌, ap, Bool, ℕ, suc, zero, ◌<◌, arith, List, [], ◌∷◌, get_or}
use Rattle.std.specs.List.{Contains}
use Rattle.std.specs.Option.{option_map}
use Rattle.graphql_scalars.specs.ScalarAnswers.{ScalarAnswer}
use Rattle.graphql_values.specs.InputValues.{Placed, unplaced, unlocated}
use Rattle.graphql_tree.specs.Definitions.{fragments_listed, operations_of}
use Rattle.graphql_tree.specs.Documents.{variables_in}
use Rattle.graphql_tree.specs.Unlocated.{unlocated_operation, unlocated_document}
use Rattle.graphql_tree.specs.Variables.{Variable}
use Rattle.graphql_tree.specs.declared.document.Definition.{Definition}
use Rattle.graphql_tree.specs.declared.document.Definition.TheVariants as definition
use Rattle.graphql_tree.specs.declared.document.Fragment.{Fragment}
use Rattle.graphql_tree.specs.declared.document.Operation.{Operation}
use Rattle.graphql_written_out.specs.Written.{written}
use Rattle.graphql_moved.specs.UnlocatedTrees.{unlocated_tree}
use Rattle.graphql_moved.proofs.UnlocatedDefinitions.{finals-alike, unlocated_definitions, variables-alike}
use Rattle.graphql_moved.proofs.UnlocatedWritten.{same-written, unplaced-unlocated}
use Rattle.graphql_plain_tree.specs.PlainDocuments.{definitions_as, operation_as}
use Rattle.graphql_plain_tree.specs.PlainOperations.{PlainOperation, plain_operation, variables_used}
use Rattle.graphql_plain_tree.proofs.DocumentSets.{document-is-its-tree}
use Rattle.graphql_plain_answers.specs.Laws.{PlainDocumentIsPlain}
use Rattle.graphql_plain_answers.proofs.UsedDefinitions.{final-stays}

only-one : {A : Type 0} (x y : A) → Contains (x ∷ []) y → x ≡ y
only-one x y h = at h.0 h.1 h.2
  where
    at : (k : ℕ) → k < 1 → get_or (x ∷ []) k y ≡ y → x ≡ y
    at zero within is = is
    at (suc k) within is = absurd (omega (arith, within))

module _ {S : Type 0} where
  -- ---- the one operation of such a document

  one-operation : (again : List (Definition S)) (q : Operation S)
      → unlocated_document again ≡ definition.Operation (unplaced (unlocated_operation q)) ∷ []
      → (x : Placed (Operation S)) → Contains (operations_of again) x
      → (again ≡ definition.Operation x ∷ []) × (unlocated_operation x.item ≡ unlocated_operation q)
  one-operation [] q same x i = absurd (cc)
  one-operation (definition.Fragment f ∷ ds) q same x i = absurd (cc)
  one-operation (definition.Operation y ∷ (d ∷ ds)) q same x i = absurd (cc)
  one-operation (definition.Operation y ∷ []) q same x i =
      let is : ◌≡◌ {A = Placed (Operation S)} (unplaced (unlocated_operation y.item))
      (unplaced (unlocated_operation q)) = cc in
      let here : y ≡ x = only-one y x i in (
        ap (λ z. definition.Operation z ∷ []) here,
        ap (λ (z : Placed (Operation S)). unlocated_operation z.item) (sym here)
            ∙ ap (λ (z : Placed (Operation S)). z.item) is,
      )

  definitions-are : (vs : List (Variable S)) → variables_in (definitions_as vs) ≡ vs
  definitions-are [] = refl
  definitions-are (v ∷ vs) = refl

  pub plain-document-is-plain : (answer : S → ScalarAnswer) (of_bool : Bool → S)
      → PlainDocumentIsPlain answer of_bool
  plain-document-is-plain answer of_bool values document again o filled same x i =
      let fragments : List (Fragment S) = fragments_listed document in
      let p : PlainOperation S = plain_operation answer of_bool values fragments o in
      let q : Operation S = operation_as p in
      let one = one-operation again q same x i in
      let definitions = variables_in o.variable_definitions in
      let own = variables_in x.item.variable_definitions in
      let alike : unlocated_definitions own ≡ unlocated_definitions p.variables =
      variables-alike x.item q one.1 ∙ ap unlocated_definitions (definitions-are p.variables) in
      record {
        kind = ap (λ (z : Operation S). z.operation_type) one.1;
        set =
            ap (λ ds. unlocated_tree (written (fragments_listed ds) x.item.selection_set)) one.0
            ∙ same-written x.item.selection_set q.selection_set
            (ap (λ (z : Operation S). z.selection_set) one.1)
            ∙ ap unlocated_tree (document-is-its-tree answer of_bool values fragments o filled)
            ∙ unplaced-unlocated p.set;
        values = λ given name used.
            sym
            (ap (option_map unlocated)
            (final-stays (variables_used p.set) name used given definitions))
            ∙ sym (finals-alike given name own p.variables alike);
      }
