-- What is written of selections without their places is what is written of them, without places;
-- and no place counts for what is left out.
use Rattle.std.proofs.Common.{◌≡◌, refl, sym, ◌∙◌, ap, List, [], ◌∷◌, map, Option}
use Rattle.std.specs.Option.{option_map}
use Rattle.graphql_names.specs.Names.{Bytes}
use Rattle.graphql_scalars.specs.ScalarAnswers.{ScalarAnswer}
use Rattle.graphql_values.specs.InputValues.{unlocated}
use Rattle.graphql_values.specs.declared.input_value.InputValue.{InputValue}
use Rattle.graphql_tree.specs.Arguments.{Argument}
use Rattle.graphql_tree.specs.Definitions.{fragments_listed}
use Rattle.graphql_tree.specs.Unlocated.{unlocated_document, unlocated_fragment, unlocated_name, unlocated_operation, unlocated_selection, without_place}
use Rattle.graphql_tree.specs.declared.document.Definition.{Definition}
use Rattle.graphql_tree.specs.declared.document.Definition.TheVariants as definition
use Rattle.graphql_tree.specs.declared.document.Fragment.{Fragment}
use Rattle.graphql_tree.specs.declared.document.Operation.{Operation}
use Rattle.graphql_tree.specs.declared.selection.Selection.{Selection}
use Rattle.graphql_written_out.specs.Conditions.{left_out}
use Rattle.graphql_written_out.specs.Trees.{Directives, Tree, none, field, inline}
use Rattle.graphql_written_out.specs.Written.{written}
use Rattle.graphql_plain_tree.specs.DocumentTrees.{unplaced_fields}
use Rattle.graphql_moved.specs.MovedTrees.{moved_marks, moved_tree}
use Rattle.graphql_moved.specs.UnlocatedTrees.{unlocated_head, unlocated_marks, unlocated_tree}
use Rattle.graphql_moved.proofs.MovedConditions.{left-out-moved, truth_in, truths-moved}
use Rattle.graphql_moved.proofs.MovedWritten.{written-moved}
use Rattle.graphql_moved.proofs.Unlocated.{directive-is, fragment-is, nowhere, same, selection-is, values-are}

module _ {S : Type 0} where
  marks-are : unlocated_marks {S = S} ≡ moved_marks same nowhere
  marks-are = λ i. map (without_place (directive-is i))

  -- a set without its places is that over the same scalars with each position at the origin
  pub tree-is : (t : Tree S) → unlocated_tree t ≡ moved_tree same nowhere t
  tree-is none = refl
  tree-is (field head directives below rest) =
      λ i. field (record (unlocated_head head) {
        arguments = map (λ (a : Argument S). (unlocated_name a.0, without_place (values-are i) a.1))
            head.arguments;
      }) (marks-are i directives) (tree-is below i) (tree-is rest i)
  tree-is (inline on directives below rest) =
      λ i. inline on (marks-are i directives) (tree-is below i) (tree-is rest i)

  pub written-unlocated : (fs : List (Fragment S)) (xs : List (Selection S))
      → written (map unlocated_fragment fs) (map unlocated_selection xs)
      ≡ unlocated_tree (written fs xs)
  written-unlocated fs xs =
      (λ i. written (map (fragment-is i) fs) (map (selection-is i) xs))
      ∙ written-moved same nowhere fs xs ∙ sym (tree-is (written fs xs))

  pub fragments-unlocated : (d : List (Definition S))
      → fragments_listed (unlocated_document d) ≡ map unlocated_fragment (fragments_listed d)
  fragments-unlocated [] = refl
  fragments-unlocated (definition.Operation o ∷ d) = fragments-unlocated d
  fragments-unlocated (definition.Fragment f ∷ d) =
      ap (λ fs. unlocated_fragment f.item ∷ fs) (fragments-unlocated d)

  -- selections that are the same without their places, where there are no fragments
  pub same-written : (xs ys : List (Selection S))
      → map unlocated_selection xs ≡ map unlocated_selection ys
      → unlocated_tree (written [] xs) ≡ unlocated_tree (written [] ys)
  same-written xs ys alike =
      sym (written-unlocated [] xs) ∙ ap (written []) alike ∙ written-unlocated [] ys

  -- operations of documents that are the same without their places
  pub same-in-documents : (document again : List (Definition S)) (o x : Operation S)
      → unlocated_document document ≡ unlocated_document again
      → unlocated_operation o ≡ unlocated_operation x
      → unlocated_tree (written (fragments_listed document) o.selection_set)
      ≡ unlocated_tree (written (fragments_listed again) x.selection_set)
  same-in-documents document again o x documents operations =
      sym (written-unlocated (fragments_listed document) o.selection_set)
      ∙ (λ i. written (same-fragments i) (operations i).selection_set)
      ∙ written-unlocated (fragments_listed again) x.selection_set
    where
      same-fragments : map unlocated_fragment (fragments_listed document)
          ≡ map unlocated_fragment (fragments_listed again)
      same-fragments =
          sym (fragments-unlocated document) ∙ ap fragments_listed documents
          ∙ fragments-unlocated again

  -- fields that stand at no place
  pub unplaced-unlocated : (t : Tree S) → unlocated_tree (unplaced_fields t) ≡ unlocated_tree t
  unplaced-unlocated none = refl
  unplaced-unlocated (field head directives below rest) =
      λ i. field (unlocated_head head) (unlocated_marks directives)
      (unplaced-unlocated below i) (unplaced-unlocated rest i)
  unplaced-unlocated (inline on directives below rest) =
      λ i. inline on (unlocated_marks directives) (unplaced-unlocated below i)
      (unplaced-unlocated rest i)

  -- ---- what is left out

  module _ (answer : S → ScalarAnswer) where
    pub truth-unlocated : (o : Option (InputValue S))
        → truth_in answer (option_map unlocated o) ≡ truth_in answer o
    truth-unlocated o =
        ap (λ (f : InputValue S → InputValue S). truth_in answer (option_map f o)) values-are
        ∙ truths-moved same nowhere answer o

    pub left-out-unlocated : (given : Bytes → Option (InputValue S)) (ds : Directives S)
        → left_out answer given (unlocated_marks ds) ≡ left_out answer given ds
    left-out-unlocated given ds =
        (λ i. left_out answer given (marks-are i ds))
        ∙ left-out-moved same nowhere answer given given (λ n. refl) ds

    -- by values of variables that are the same but for places
    pub left-out-alike : (values others : Bytes → Option (InputValue S))
        → ((name : Bytes) → option_map unlocated (values name) ≡ option_map unlocated (others name))
        → (ds : Directives S) → left_out answer values ds ≡ left_out answer others ds
    left-out-alike values others alike ds =
        let truths : (name : Bytes) → truth_in answer (others name) ≡ truth_in answer (values name) =
        λ name. sym (truth-unlocated (others name)) ∙ ap (truth_in answer) (sym (alike name))
        ∙ truth-unlocated (values name) in
        sym (left-out-moved same nowhere answer values others truths ds)
        ∙ left-out-moved same nowhere answer others others (λ n. refl) ds
