-- What a fold gives at each form of a selection, and of what stands within it.
use Rattle.std.proofs.Common.{◌≡◌, List, Option, Some, None, map, ap, sym, ◌∙◌}
use Rattle.std.specs.Option.{option_map}
use Rattle.graphql_values.specs.InputValues.{Placed}
use Rattle.graphql_tree.specs.declared.selection.Field.{Field, fold_out-Field}
use Rattle.graphql_tree.specs.declared.selection.FragmentSpread.{FragmentSpread}
use Rattle.graphql_tree.specs.declared.selection.InlineFragment.{InlineFragment, fold_out-InlineFragment}
use Rattle.graphql_tree.specs.declared.selection.Selection.{Selection, fold-Selection, fold-roll-Selection}
use Rattle.graphql_tree.specs.declared.selection.Selection.TheFolds.{fold-Field, fold-InlineFragment}
use Rattle.graphql_tree.specs.declared.selection.Selection.TheOpen.{Selection-F, Field-F, InlineFragment-F}
use Rattle.graphql_tree.specs.declared.selection.Selection.TheVariants as selection
use Rattle.graphql_values.proofs.InputValueEquations.{on_item}

-- a layer of a field: the field, with what each selection of its set gave
module _ {S A F I : Type 0} where
  abbrev pub field_layer : Field S → Option (List A) → Field-F S A F I
  field_layer f set = record { alias = f.alias; name = f.name; arguments = f.arguments; directives = f.directives; selection_set = set }

  abbrev pub inline_layer : InlineFragment S → List A → InlineFragment-F S A F I
  inline_layer i set = record { type_condition = i.type_condition; directives = i.directives; selection_set = set }

module _ {S A F I : Type 0} (step : Selection-F S A F I → A) (field_step : Field-F S A F I → F) (inline_step : InlineFragment-F S A F I → I) where
  abbrev pub folded : Selection S → A
  folded = fold-Selection S A F I step field_step inline_step

  abbrev pub folded_field : Field S → F
  folded_field = fold-Field S A F I step field_step inline_step

  abbrev pub folded_inline : InlineFragment S → I
  folded_inline = fold-InlineFragment S A F I step field_step inline_step

  pub fold_field : (x : Placed (Field S)) → folded (selection.Field x) ≡ step (Selection-F.Field (on_item folded_field x))
  fold_field x = ap folded (sym (selection.rolls-Field x)) ∙ fold-roll-Selection S A F I step field_step inline_step (Selection-F.Field x)

  pub fold_spread : (x : Placed (FragmentSpread S)) → folded (selection.FragmentSpread x) ≡ step (Selection-F.FragmentSpread x)
  fold_spread x = ap folded (sym (selection.rolls-FragmentSpread x)) ∙ fold-roll-Selection S A F I step field_step inline_step (Selection-F.FragmentSpread x)

  pub fold_inline : (x : Placed (InlineFragment S)) → folded (selection.InlineFragment x) ≡ step (Selection-F.InlineFragment (on_item folded_inline x))
  fold_inline x = ap folded (sym (selection.rolls-InlineFragment x)) ∙ fold-roll-Selection S A F I step field_step inline_step (Selection-F.InlineFragment x)

  with_set : (f : Field S) (set : Option (List (Selection S))) → folded_field (record f { selection_set = set }) ≡ field_step (field_layer f (option_map (map folded) set))
  with_set f None = fold_out-Field S A F I step field_step inline_step (record f { selection_set = None })
  with_set f (Some xs) = fold_out-Field S A F I step field_step inline_step (record f { selection_set = Some xs })

  pub fold_in_field : (f : Field S) → folded_field f ≡ field_step (field_layer f (option_map (map folded) f.selection_set))
  fold_in_field f = with_set f f.selection_set

  pub fold_in_inline : (i : InlineFragment S) → folded_inline i ≡ inline_step (inline_layer i (map folded i.selection_set))
  fold_in_inline i = fold_out-InlineFragment S A F I step field_step inline_step i
