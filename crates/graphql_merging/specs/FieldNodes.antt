-- How many fields a document writes, and how many a table of its selection sets has (GraphQL
-- October 2021, 2.5 Fields).
use Rattle.std.specs.Prelude.{ℕ, ◌+◌, List, length}
use Rattle.std.specs.List.{sum_by}
use Rattle.graphql_tree.specs.Counts.{field_count_layer, inline_count_layer}
use Rattle.graphql_tree.specs.declared.document.Definition.{Definition}
use Rattle.graphql_tree.specs.declared.document.Definition.TheVariants as definition
use Rattle.graphql_tree.specs.declared.selection.Selection.{Selection, fold-Selection}
use Rattle.graphql_tree.specs.declared.selection.Selection.TheOpen.{Selection-F}
use Rattle.graphql_merging.specs.declared.table.WrittenSet.{WrittenSet}

module _ {S : Type 0} where
  abbrev pub nodes_layer : Selection-F S ℕ ℕ ℕ → ℕ
  nodes_layer (Selection-F.Field f) = 1 + f.item
  nodes_layer (Selection-F.FragmentSpread s) = 0
  nodes_layer (Selection-F.InlineFragment i) = i.item

  -- the field that a selection is and those within it, however deep; what a spread stands for is
  -- written elsewhere
  unfoldable pub selection_nodes : Selection S → ℕ
  selection_nodes = fold-Selection S ℕ ℕ ℕ nodes_layer field_count_layer inline_count_layer

  -- those of a selection set
  unfoldable pub set_nodes : List (Selection S) → ℕ
  set_nodes = sum_by selection_nodes

  -- those of an operation or of a fragment
  abbrev pub definition_nodes : Definition S → ℕ
  definition_nodes (definition.Operation o) = set_nodes o.item.selection_set
  definition_nodes (definition.Fragment f) = set_nodes f.item.selection_set

  -- the field nodes of a document: each field once where it is written, however often its fragment
  -- is spread
  unfoldable pub document_nodes : List (Definition S) → ℕ
  document_nodes = sum_by definition_nodes

-- the fields that stand directly in the sets of a table
unfoldable pub fields_written : {S C : Type 0} → List (WrittenSet S C) → ℕ
fields_written = sum_by (λ set. length set.fields)
