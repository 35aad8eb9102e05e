-- Each list has children where fragments are without a cycle, and none has others besides.
use Rattle.std.proofs.Common.{◌≡◌, refl, sym, ◌∙◌, ap, ℕ, zero, suc, ◌<◌, arith, Bool, true, false, true≢false, List, [], ◌∷◌, ◌++◌, Option, Some, None, inl, inr}
use Rattle.graphql_names.specs.Names.{Bytes}
use Rattle.graphql_values.specs.InputValues.{Placed}
use Rattle.graphql_tree.specs.declared.document.Fragment.{Fragment}
use Rattle.graphql_tree.specs.declared.selection.Field.{Field}
use Rattle.graphql_tree.specs.declared.selection.FragmentSpread.{FragmentSpread}
use Rattle.graphql_tree.specs.declared.selection.InlineFragment.{InlineFragment}
use Rattle.graphql_tree.specs.declared.selection.Selection.{Selection, out-Selection}
use Rattle.graphql_tree.specs.declared.selection.Selection.TheOpen.{Selection-F}
use Rattle.graphql_tree.specs.declared.selection.Selection.TheVariants as selection
use Rattle.graphql_tree.proofs.SelectionInduction.{selection_ind}
use Rattle.graphql_written_out.specs.Trees.{Directives}
use Rattle.graphql_written_out.specs.Written.{Settled, condition_of, fragment_meant, listed}
use Rattle.graphql_look_ahead.specs.Applies.{bound}
use Rattle.graphql_look_ahead.specs.Children.{Ahead, Children, HasChildren, Opened, a_field, directives_of, left_out, no_more, of_field, of_inline, of_spread, of_unknown, opened_directives}
use Rattle.graphql_look_ahead.specs.Open.{turns_of}
use Rattle.graphql_look_ahead.proofs.OpenLemmas.{Parts, PartsIn, in-field, in-inline, in-spread, parts, passes-unknown, turns-Field, turns-Inline, turns-Spread, turns-unknown}

module _ {S : Type 0} (drops : Directives S → Bool) (fragments : List (Fragment S)) (only : Option Bytes) where
  abbrev Have : List (Selection S) → Type 0
  Have = HasChildren drops fragments only

  at-field : (x : Placed (Field S)) (xs : List (Selection S)) (b : Bool) → drops (listed x.item.directives) ≡ b → Have xs → Have (selection.Field x ∷ xs)
  at-field x xs true e h = (h.0, left_out only (selection.Field x) xs h.0 (ap (λ o. drops (opened_directives o)) (selection.outs-Field x) ∙ e) h.1)
  at-field x xs false e h = (a_field x only ∷ h.0, of_field only x xs h.0 e h.1)

  at-spread : (x : Placed (FragmentSpread S)) (f : Fragment S) (xs : List (Selection S)) (b : Bool) → drops (listed x.item.directives) ≡ b
      → fragment_meant fragments x.item.name.item ≡ Some f → Have f.selection_set → Have xs → Have (selection.FragmentSpread x ∷ xs)
  at-spread x f xs true e m i h = (h.0, left_out only (selection.FragmentSpread x) xs h.0 (ap (λ o. drops (opened_directives o)) (selection.outs-FragmentSpread x) ∙ e) h.1)
  at-spread x f xs false e m i h = (i.0 ++ h.0, of_spread only x f xs i.0 h.0 e m i.1 h.1)

  at-unknown : (x : Placed (FragmentSpread S)) (xs : List (Selection S)) → fragment_meant fragments x.item.name.item ≡ None → Have xs → Have (selection.FragmentSpread x ∷ xs)
  at-unknown x xs m h = (h.0, of_unknown only x xs h.0 m h.1)

  at-inline : (x : Placed (InlineFragment S)) (xs : List (Selection S)) (b : Bool) → drops (listed x.item.directives) ≡ b
      → HasChildren drops fragments (bound only (condition_of x.item)) x.item.selection_set → Have xs → Have (selection.InlineFragment x ∷ xs)
  at-inline x xs true e i h = (h.0, left_out only (selection.InlineFragment x) xs h.0 (ap (λ o. drops (opened_directives o)) (selection.outs-InlineFragment x) ∙ e) h.1)
  at-inline x xs false e i h = (i.0 ++ h.0, of_inline only x xs i.0 h.0 e i.1 h.1)

module _ {S : Type 0} (drops : Directives S → Bool) (fragments : List (Fragment S)) (settled : Settled fragments) where
  -- each list that takes fewer turns has children
  abbrev Below : ℕ → Type 0
  Below n = (only : Option Bytes) (set : List (Selection S)) → turns_of fragments set < n → HasChildren drops fragments only set

  module _ (n : ℕ) (below : Below n) (only : Option Bytes) where
    -- within one turn more: where the rest has children, so has the list
    abbrev Within : List (Selection S) → Type 0
    Within set = turns_of fragments set < suc n → HasChildren drops fragments only set

    within-field : (x : Placed (Field S)) (xs : List (Selection S)) → Within xs → Within (selection.Field x ∷ xs)
    within-field x xs rest lt =
        let turns = turns-Field fragments x xs in
        at-field drops fragments only x xs (drops (listed x.item.directives)) refl (rest (omega (arith, turns)))

    within-spread : (x : Placed (FragmentSpread S)) (xs : List (Selection S)) (meant : Option (Fragment S)) → fragment_meant fragments x.item.name.item ≡ meant
        → Within xs → Within (selection.FragmentSpread x ∷ xs)
    within-spread x xs None e rest lt =
        let turns = turns-unknown fragments x xs e in
        at-unknown drops fragments only x xs e (rest (omega (arith, turns)))
    within-spread x xs (Some f) e rest lt =
        let turns = turns-Spread fragments settled x f xs e in
        at-spread drops fragments only x f xs (drops (listed x.item.directives)) refl e (below only f.selection_set (omega (arith, turns))) (rest (omega (arith, turns)))

    within-inline : (x : Placed (InlineFragment S)) (xs : List (Selection S)) → Within xs → Within (selection.InlineFragment x ∷ xs)
    within-inline x xs rest lt =
        let turns = turns-Inline fragments x xs in
        at-inline drops fragments only x xs (drops (listed x.item.directives)) refl
        (below (bound only (condition_of x.item)) x.item.selection_set (omega (arith, turns))) (rest (omega (arith, turns)))

    within-cons : (xs : List (Selection S)) → Within xs → (x : Selection S) → Within (x ∷ xs)
    within-cons xs rest = selection_ind (λ x. Within (x ∷ xs))
        (λ x _. within-field x xs rest)
        (λ x. within-spread x xs (fragment_meant fragments x.item.name.item) refl rest)
        (λ x _. within-inline x xs rest)

    within : (set : List (Selection S)) → Within set
    within [] = λ lt. ([], no_more only)
    within (x ∷ xs) = within-cons xs (within xs) x

  below : (n : ℕ) → Below n
  below zero = λ only set lt. absurd (omega (arith, lt))
  below (suc n) = λ only set lt. within n (below n) only set lt

  pub children-exist : (only : Option Bytes) (set : List (Selection S)) → HasChildren drops fragments only set
  children-exist only set = below (suc (turns_of fragments set)) only set (omega arith)

module _ {S : Type 0} (drops : Directives S → Bool) (fragments : List (Fragment S)) where
  abbrev Has : Option Bytes → List (Selection S) → List (Ahead S) → Type 0
  Has = Children drops fragments

  -- behind a selection that is left out
  past-out : (only : Option Bytes) (o : Opened S) (xs : List (Selection S)) (cs : List (Ahead S)) → drops (opened_directives o) ≡ true → PartsIn drops fragments only o xs cs → Has only xs cs
  past-out only (Selection-F.Field x) xs cs out h = absurd (true≢false (sym out ∙ h.0))
  past-out only (Selection-F.FragmentSpread x) xs cs out (inl h) = h.1
  past-out only (Selection-F.FragmentSpread x) xs cs out (inr h) = absurd (true≢false (sym out ∙ h.0))
  past-out only (Selection-F.InlineFragment x) xs cs out h = absurd (true≢false (sym out ∙ h.0))

  behind-out : (only : Option Bytes) (x : Selection S) (xs : List (Selection S)) (cs : List (Ahead S)) → drops (directives_of x) ≡ true → Parts drops fragments only (x ∷ xs) cs → Has only xs cs
  behind-out only x xs cs out (inl h) = h.1
  behind-out only x xs cs out (inr h) = past-out only (out-Selection S x) xs cs out h

  pub children-same : (only : Option Bytes) (set : List (Selection S)) (cs ds : List (Ahead S)) → Has only set cs → Has only set ds → cs ≡ ds
  children-same only _ _ ds (no_more o) h = sym (parts drops fragments only [] ds h)
  children-same only _ cs ds (left_out o x xs es out more) h = children-same only xs cs ds more (behind-out only x xs ds out (parts drops fragments only (x ∷ xs) ds h))
  children-same only _ _ ds (of_field o x xs es kept more) h =
      let p = in-field drops fragments x xs kept only ds h in
      ap (λ zs. a_field x only ∷ zs) (children-same only xs es p.0 more p.1) ∙ sym p.2
  children-same only _ _ ds (of_spread o x f xs inner es kept m i more) h =
      let p = in-spread drops fragments x xs f m kept only ds h in
      (λ k. children-same only f.selection_set inner p.0 i p.2 k ++ children-same only xs es p.1 more p.3 k) ∙ sym p.4
  children-same only _ cs ds (of_unknown o x xs es m more) h =
      children-same only xs cs ds more (passes-unknown drops fragments x xs m only ds (parts drops fragments only (selection.FragmentSpread x ∷ xs) ds h))
  children-same only _ _ ds (of_inline o x xs inner es kept i more) h =
      let p = in-inline drops fragments x xs kept only ds h in
      (λ k. children-same (bound only (condition_of x.item)) x.item.selection_set inner p.0 i p.2 k ++ children-same only xs es p.1 more p.3 k) ∙ sym p.4
