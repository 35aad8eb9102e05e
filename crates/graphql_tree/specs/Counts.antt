-- How many selections stand in a selection (GraphQL October 2021, 2.4 Selection Sets).
use Rattle.std.specs.Prelude.{ℕ, ◌+◌, Option, Some, None, List, sum}
use Rattle.std.specs.List.{sum_by}
use Rattle.graphql_tree.specs.declared.selection.Selection.{Selection, fold-Selection}
use Rattle.graphql_tree.specs.declared.selection.Selection.TheOpen.{Selection-F, Field-F}
use Rattle.graphql_tree.specs.declared.selection.Selection.TheOpen.{InlineFragment-F}

module _ {S : Type 0} where
  abbrev pub count_layer : Selection-F S ℕ ℕ ℕ → ℕ
  count_layer (Selection-F.Field f) = 1 + f.item
  count_layer (Selection-F.FragmentSpread s) = 1
  count_layer (Selection-F.InlineFragment i) = 1 + i.item

  abbrev pub field_count_layer : Field-F S ℕ ℕ ℕ → ℕ
  field_count_layer f = count_of_set f.selection_set
    where
      count_of_set : Option (List ℕ) → ℕ
      count_of_set None = 0
      count_of_set (Some counts) = sum counts

  abbrev pub inline_count_layer : InlineFragment-F S ℕ ℕ ℕ → ℕ
  inline_count_layer i = sum i.selection_set

  -- the selection itself and those within it, however deep
  abbrev pub selection_count : Selection S → ℕ
  selection_count = fold-Selection S ℕ ℕ ℕ count_layer field_count_layer inline_count_layer

  -- those of a selection set
  abbrev pub set_count : List (Selection S) → ℕ
  set_count = sum_by selection_count
