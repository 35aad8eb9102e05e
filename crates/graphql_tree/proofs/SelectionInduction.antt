-- Induction over a selection: what is to hold of a field or an inline fragment may be shown from what holds of the selections of its set.
use Rattle.std.proofs.Common.{List, Some, None, map, sym, subst, get_or}
use Rattle.std.specs.List.{All}
use Rattle.std.specs.Prelude.{IfSome}
use Rattle.std.proofs.lemmas.List.Elements.{All-map}
use Rattle.graphql_values.specs.InputValues.{Placed}
use Rattle.graphql_tree.specs.declared.selection.Field.{Field}
use Rattle.graphql_tree.specs.declared.selection.FragmentSpread.{FragmentSpread}
use Rattle.graphql_tree.specs.declared.selection.InlineFragment.{InlineFragment}
use Rattle.graphql_tree.specs.declared.selection.Selection.{Selection, roll-Selection, ind-Selection, map-Selection}
use Rattle.graphql_tree.specs.declared.selection.Selection.TheFolds.{map-Field}
use Rattle.graphql_tree.specs.declared.selection.Selection.TheOpen.{Selection-F}
use Rattle.graphql_tree.specs.declared.selection.Selection.TheVariants as selection

module _ {S : Type 0} (P : Selection S → Type 0) where
  -- a selection of which it is shown
  abbrev pub Shown : Type 0
  Shown = (x : Selection S) × P x

  abbrev pub HoldsOfSet : List (Selection S) → Type 0
  HoldsOfSet xs = All P xs

  abbrev pub HoldsInField : Field S → Type 0
  HoldsInField f = IfSome f.selection_set HoldsOfSet

  abbrev pub HoldsInInline : InlineFragment S → Type 0
  HoldsInInline i = HoldsOfSet i.selection_set

  set_holds : (xs : List Shown) → HoldsOfSet (map (λ (e : Shown). e.0) xs)
  set_holds xs = All-map P (λ (e : Shown). e.0) xs (λ k d h. (get_or xs k d).1)

  pub selection_ind :
      ((x : Placed (Field S)) → HoldsInField x.item → P (selection.Field x))
      → ((x : Placed (FragmentSpread S)) → P (selection.FragmentSpread x))
      → ((x : Placed (InlineFragment S)) → HoldsInInline x.item → P (selection.InlineFragment x))
      → (x : Selection S) → P x
  selection_ind at_field at_spread at_inline = ind-Selection S P HoldsInField HoldsInInline
      (λ x y is. subst (λ z. P (roll-Selection S z)) is (elim y as (λ w. P (roll-Selection S (map-Selection S _ _ _ _ _ _ (λ e. e.0) (λ e. e.0) (λ e. e.0) w))) [
        | Selection-F.Field f ↦ subst P (sym (selection.rolls-Field _)) (at_field _ f.item.1)
        | Selection-F.FragmentSpread f ↦ subst P (sym (selection.rolls-FragmentSpread f)) (at_spread f)
        | Selection-F.InlineFragment i ↦ subst P (sym (selection.rolls-InlineFragment _)) (at_inline _ i.item.1)
      ]))
      (λ x y is. subst (λ z. IfSome z.selection_set HoldsOfSet) is (elim y.selection_set as (λ o. IfSome (map-Field S _ _ _ _ _ _ (λ e. e.0) (λ e. e.0) (λ e. e.0) (record y { selection_set = o })).selection_set HoldsOfSet) [
        | None ↦ tt
        | Some xs ↦ set_holds xs
      ]))
      (λ x y is. subst (λ z. HoldsOfSet z.selection_set) is (set_holds y.selection_set))
