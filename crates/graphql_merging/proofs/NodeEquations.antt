-- How many fields are written in a field and in an inline fragment.
use Rattle.std.proofs.Common.{◌≡◌, refl, ap, ◌∙◌, ℕ, ◌+◌, List, [], ◌∷◌, ◌++◌, Option, Some, None, map}
use Rattle.std.specs.Option.{option_map}
use Rattle.std.proofs.lemmas.List.Sums.{sum-map, sum_by_push}
use Rattle.graphql_values.specs.InputValues.{Placed}
use Rattle.graphql_tree.specs.Counts.{field_count_layer, inline_count_layer}
use Rattle.graphql_tree.specs.declared.selection.Field.{Field}
use Rattle.graphql_tree.specs.declared.selection.InlineFragment.{InlineFragment}
use Rattle.graphql_tree.specs.declared.selection.Selection.{Selection}
use Rattle.graphql_tree.specs.declared.selection.Selection.TheVariants as selection
use Rattle.graphql_tree.proofs.SelectionEquations.{fold_field, fold_inline, fold_in_field, fold_in_inline, field_layer}
use Rattle.graphql_written_out.specs.Written.{listed}
use Rattle.graphql_merging.specs.FieldNodes.{nodes_layer, selection_nodes, set_nodes}

module _ {S : Type 0} where
  of-set : (f : Field S) (set : Option (List (Selection S)))
      → field_count_layer (field_layer f (option_map (map selection_nodes) set)) ≡ set_nodes (listed set)
  unfolding set_nodes
  of-set f None = refl
  of-set f (Some set) = sum-map selection_nodes set

  pub nodes-field : (x : Placed (Field S))
      → selection_nodes (selection.Field x) ≡ 1 + set_nodes (listed x.item.selection_set)
  unfolding selection_nodes
  nodes-field x =
      let below = fold_in_field nodes_layer field_count_layer inline_count_layer x.item in
      fold_field nodes_layer field_count_layer inline_count_layer x
      ∙ ap (λ n. 1 + n) (below ∙ of-set x.item x.item.selection_set)

  pub nodes-inline : (x : Placed (InlineFragment S))
      → selection_nodes (selection.InlineFragment x) ≡ set_nodes x.item.selection_set
  unfolding selection_nodes set_nodes
  nodes-inline x =
      fold_inline nodes_layer field_count_layer inline_count_layer x
      ∙ fold_in_inline nodes_layer field_count_layer inline_count_layer x.item
      ∙ sum-map selection_nodes x.item.selection_set

  pub nodes-more : (xs : List (Selection S)) (x : Selection S)
      → set_nodes (xs ++ x ∷ []) ≡ set_nodes xs + selection_nodes x
  unfolding set_nodes
  nodes-more xs x = sum_by_push selection_nodes xs x
