-- What a selection without its places is, form by form.
use Rattle.std.proofs.Common.{◌≡◌, map}
use Rattle.std.specs.Option.{option_map}
use Rattle.graphql_values.specs.InputValues.{Placed}
use Rattle.graphql_tree.specs.declared.selection.Field.{Field}
use Rattle.graphql_tree.specs.declared.selection.FragmentSpread.{FragmentSpread}
use Rattle.graphql_tree.specs.declared.selection.InlineFragment.{InlineFragment}
use Rattle.graphql_tree.specs.declared.selection.Selection.TheVariants as selection
use Rattle.graphql_tree.specs.Unlocated.{without_place, unlocated_name, unlocated_arguments, unlocated_directives, unlocated_spread, unlocated_layer, unlocated_field_layer, unlocated_inline_layer, unlocated_selection, unlocated_field, unlocated_inline}
use Rattle.graphql_tree.proofs.SelectionEquations.{fold_field, fold_spread, fold_inline, fold_in_field, fold_in_inline}

module _ {S : Type 0} where
  pub unlocated_selection_field : (x : Placed (Field S)) → unlocated_selection (selection.Field x) ≡ selection.Field (without_place unlocated_field x)
  unlocated_selection_field = fold_field unlocated_layer unlocated_field_layer unlocated_inline_layer

  pub unlocated_selection_spread : (x : Placed (FragmentSpread S)) → unlocated_selection (selection.FragmentSpread x) ≡ selection.FragmentSpread (without_place unlocated_spread x)
  unlocated_selection_spread = fold_spread unlocated_layer unlocated_field_layer unlocated_inline_layer

  pub unlocated_selection_inline : (x : Placed (InlineFragment S)) → unlocated_selection (selection.InlineFragment x) ≡ selection.InlineFragment (without_place unlocated_inline x)
  unlocated_selection_inline = fold_inline unlocated_layer unlocated_field_layer unlocated_inline_layer

  pub unlocated_in_field : (f : Field S) → unlocated_field f ≡ record { alias = option_map unlocated_name f.alias; name = unlocated_name f.name; arguments = option_map (without_place unlocated_arguments) f.arguments; directives = unlocated_directives f.directives; selection_set = option_map (map unlocated_selection) f.selection_set }
  unlocated_in_field = fold_in_field unlocated_layer unlocated_field_layer unlocated_inline_layer

  pub unlocated_in_inline : (i : InlineFragment S) → unlocated_inline i ≡ record { type_condition = option_map unlocated_name i.type_condition; directives = unlocated_directives i.directives; selection_set = map unlocated_selection i.selection_set }
  unlocated_in_inline = fold_in_inline unlocated_layer unlocated_field_layer unlocated_inline_layer

pub ruleset unlocated_steps = (unlocated_selection_field, unlocated_selection_spread, unlocated_selection_inline, unlocated_in_field, unlocated_in_inline)
