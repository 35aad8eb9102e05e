-- What is written of a selection, form by form, for each way to write spreads.
use Rattle.std.proofs.Common.{◌≡◌, refl, ◌∙◌, ap, List, map, Option, Some, None}
use Rattle.std.specs.Option.{option_map, is_some}
use Rattle.graphql_values.specs.InputValues.{Placed}
use Rattle.graphql_tree.specs.declared.selection.Field.{Field}
use Rattle.graphql_tree.specs.declared.selection.FragmentSpread.{FragmentSpread}
use Rattle.graphql_tree.specs.declared.selection.InlineFragment.{InlineFragment}
use Rattle.graphql_tree.specs.declared.selection.Selection.TheVariants as selection
use Rattle.graphql_tree.proofs.SelectionEquations.{fold_field, fold_spread, fold_inline, fold_in_field, fold_in_inline}
use Rattle.graphql_written_out.specs.Trees.{Tree, none, field, inline}
use Rattle.graphql_written_out.specs.Written.{listed, head_of, condition_of, Before, chain, selection_layer, field_layer, inline_layer, write_with}

pub listed-map : {A B : Type 0} (f : A → B) (set : Option (List A)) → listed (option_map (map f) set) ≡ map f (listed set)
listed-map f None = refl
listed-map f (Some xs) = refl

pub same-some : {A B : Type 0} (f : A → B) (set : Option (List A)) → is_some (option_map (map f) set) ≡ is_some set
same-some f None = refl
same-some f (Some xs) = refl

module _ {S : Type 0} (r : FragmentSpread S → Before S) where
  pub write_field : (x : Placed (Field S)) (rest : Tree S)
      → write_with r (selection.Field x) rest ≡ field (head_of x) (listed x.item.directives) (chain (map (write_with r) (listed x.item.selection_set)) none) rest
  write_field x rest =
      ap (λ (f : Before S). f rest) (fold_field (selection_layer r) (field_layer r) (inline_layer r) x)
      ∙ ap (λ f. f x.span.start rest) (fold_in_field (selection_layer r) (field_layer r) (inline_layer r) x.item)
      ∙ (λ i. field (record (head_of x) { has_set = same-some (write_with r) x.item.selection_set i }) (listed x.item.directives)
      (chain (listed-map (write_with r) x.item.selection_set i) none) rest)

  pub write_spread : (x : Placed (FragmentSpread S)) (rest : Tree S) → write_with r (selection.FragmentSpread x) rest ≡ r x.item rest
  write_spread x rest = ap (λ (f : Before S). f rest) (fold_spread (selection_layer r) (field_layer r) (inline_layer r) x)

  pub write_inline : (x : Placed (InlineFragment S)) (rest : Tree S)
      → write_with r (selection.InlineFragment x) rest ≡ inline (condition_of x.item) (listed x.item.directives) (chain (map (write_with r) x.item.selection_set) none) rest
  write_inline x rest =
      ap (λ (f : Before S). f rest) (fold_inline (selection_layer r) (field_layer r) (inline_layer r) x)
      ∙ ap (λ (f : Before S). f rest) (fold_in_inline (selection_layer r) (field_layer r) (inline_layer r) x.item)
