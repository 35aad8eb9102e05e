-- Merging in plain documents (GraphQL October 2021, 5.3.2 Field Selection Merging).
use Rattle.std.specs.Prelude.{◌≡◌, Bool, List}
use Rattle.std.specs.List.{All}
use Rattle.graphql_scalars.specs.ScalarAnswers.{ScalarAnswer}
use Rattle.graphql_tree.specs.declared.document.Definition.{Definition}
use Rattle.graphql_schema.specs.declared.meta.MetaType.{MetaType}
use Rattle.graphql_schema.specs.Declarations.{Declarations}
use Rattle.graphql_written_out.specs.Trees.{Tree}
use Rattle.graphql_merging.specs.Members.{Scope, members}
use Rattle.graphql_merging.specs.Merging.{Merging}
use Rattle.graphql_merging.specs.Sets.{document_sets, members_of}
use Rattle.graphql_moved.specs.UnlocatedTrees.{unlocated_tree}
use Rattle.graphql_plain_validity.specs.PlainRequests.{IsPlainDocument}

-- of sets that are the same without their places the one merges where the other does
abbrev pub MergesWithoutPlaces : (S C : Type 0) → (S → S → Bool) → Type 0
MergesWithoutPlaces S C eq = (types : List (MetaType S C)) (scope : Scope S C) (set other : Tree S)
    → unlocated_tree set ≡ unlocated_tree other → Merging eq types (members types scope set)
    → Merging eq types (members types scope other)

module _ {S C : Type 0} (eq : S → S → Bool) (schema : Declarations S C) where
  -- each selection set of a document merges, fragments written out
  abbrev pub FieldsMerge : List (Definition S) → Type 0
  FieldsMerge document =
      All (λ set. Merging eq schema.types (members_of schema.types set))
      (document_sets schema document)

  -- where the sets of a document merge those of its plain document do
  -- `answer`: what a scalar answers; `of_bool`: the scalar of a boolean
  abbrev pub FieldsStayMerging : (S → ScalarAnswer) → (Bool → S) → Type 0
  FieldsStayMerging answer of_bool =
      (document again : List (Definition S)) → IsPlainDocument answer of_bool document again
      → FieldsMerge document → FieldsMerge again
