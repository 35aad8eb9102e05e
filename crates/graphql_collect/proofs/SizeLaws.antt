-- Sizes of sets and fragments, and the turns through them, step by step.
use Rattle.std.proofs.Common.{◌≡◌, refl, sym, ◌∙◌, ap, subst, ℕ, ◌+◌, ◌<◌, ◌≤◌, arith, Bool, true, false, List, [], ◌∷◌, ◌++◌, map, length, take, drop, get_or, Some, cond}
use Rattle.std.specs.List.{list_any, find, sum_by}
use Rattle.std.specs.Str.{bytes_eq}
use Rattle.std.proofs.lemmas.List.{take_more, drop_more, drop_all, reverse-append}
use Rattle.std.proofs.lemmas.List.Sums.{sum_by-cons}
use Rattle.std.proofs.lemmas.Slice.Eq.{bytes_eq-Decides}
use Rattle.graphql_values.specs.InputValues.{Placed}
use Rattle.graphql_tree.specs.Counts.{selection_count, count_layer, field_count_layer, inline_count_layer}
use Rattle.graphql_tree.specs.declared.document.Fragment.{Fragment}
use Rattle.graphql_tree.specs.declared.selection.Field.{Field}
use Rattle.graphql_tree.specs.declared.selection.FragmentSpread.{FragmentSpread}
use Rattle.graphql_tree.specs.declared.selection.InlineFragment.{InlineFragment}
use Rattle.graphql_tree.specs.declared.selection.Selection.{Selection}
use Rattle.graphql_tree.specs.declared.selection.Selection.TheVariants as selection
use Rattle.graphql_tree.proofs.SelectionEquations.{fold_field, fold_spread, fold_inline, fold_in_field, fold_in_inline}
use Rattle.graphql_tree.proofs.CountEquations.{count_inline}
use Rattle.graphql_tree.proofs.SelectionInduction.{selection_ind}
use Rattle.graphql_written_out.specs.Trees.{Tree, none}
use Rattle.graphql_names.specs.Names.{Bytes}
use Rattle.graphql_written_out.specs.Written.{fragment_meant}
use Rattle.graphql_written_out.specs.Written.{Before, chain, listed, selection_layer, field_layer, inline_layer}
use Rattle.indexmap.specs.IndexSet.{insert_key}
use Rattle.graphql_collect.specs.declared.open_set.OpenSet.{OpenSet}
use Rattle.graphql_collect.specs.OpenSets.{Open, rest_of, rests}
use Rattle.graphql_collect.specs.Sizes.{tree_size, without_spreads, size, left_by, size_below, turns, selection_turns}
use Rattle.graphql_collected.specs.declared.collected_field.CollectedField.{CollectedField}
use Rattle.graphql_collect.specs.Grouped.{Lent}
use Rattle.graphql_semantics.proofs.GroupRepeats.{any-more, any-last}

less-one : (k name : Bytes) (visited : List Bytes) (n : ℕ) → cond (list_any (bytes_eq k) (visited ++ name ∷ [])) 0 n ≤ cond (list_any (bytes_eq k) visited) 0 n
less-one k name visited n = cases (list_any (bytes_eq k) visited) refl
  where
    under : (q : Bool) → cond q 0 n ≤ n
    under true = omega arith
    under false = omega arith

    cases : (q : Bool) → list_any (bytes_eq k) visited ≡ q → cond (list_any (bytes_eq k) (visited ++ name ∷ [])) 0 n ≤ cond q 0 n
    cases true t = rw (any-more (bytes_eq k) visited (name ∷ []) t) (omega arith)
    cases false t = under (list_any (bytes_eq k) (visited ++ name ∷ []))

-- a name that is new goes last
pub inserted : (names more : List Bytes) (name key : Bytes) → key ≡ name → list_any (bytes_eq name) names ≡ false → more ≡ insert_key bytes_eq names key → more ≡ names ++ name ∷ []
inserted names more name key same new e = e ∙ ap (insert_key bytes_eq names) same ∙ ap (λ q. cond q names (names ++ name ∷ [])) new

module _ {S : Type 0} where
  abbrev skip : FragmentSpread S → Before S
  skip x rest = rest

  bare-Field : (x : Placed (Field S)) (rest : Tree S) → tree_size (without_spreads (selection.Field x) rest) ≡ 1 + tree_size rest
  unfolding without_spreads
  bare-Field x rest =
      ap (λ (f : Before S). tree_size (f rest)) (fold_field (selection_layer skip) (field_layer skip) (inline_layer skip) x)
      ∙ ap (λ f. tree_size (f x.span.start rest)) (fold_in_field (selection_layer skip) (field_layer skip) (inline_layer skip) x.item)

  bare-Spread : (x : Placed (FragmentSpread S)) (rest : Tree S) → tree_size (without_spreads (selection.FragmentSpread x) rest) ≡ tree_size rest
  unfolding without_spreads
  bare-Spread x rest = ap (λ (f : Before S). tree_size (f rest)) (fold_spread (selection_layer skip) (field_layer skip) (inline_layer skip) x)

  bare-Inline : (x : Placed (InlineFragment S)) (rest : Tree S) → tree_size (without_spreads (selection.InlineFragment x) rest) ≡ size x.item.selection_set + tree_size rest
  unfolding without_spreads size
  bare-Inline x rest =
      ap (λ (f : Before S). tree_size (f rest)) (fold_inline (selection_layer skip) (field_layer skip) (inline_layer skip) x)
      ∙ ap (λ (f : Before S). tree_size (f rest)) (fold_in_inline (selection_layer skip) (field_layer skip) (inline_layer skip) x.item)

  abbrev Sums : Selection S → Type 0
  Sums x = (rest : Tree S) → tree_size (without_spreads x rest) ≡ tree_size (without_spreads x none) + tree_size rest

  bare-sums : (x : Selection S) → Sums x
  bare-sums = selection_ind Sums
      (λ x h rest. rw (bare-Field x rest, bare-Field x none) (omega arith))
      (λ x rest. rw (bare-Spread x rest, bare-Spread x none) (omega arith))
      (λ x h rest. rw (bare-Inline x rest, bare-Inline x none) (omega arith))

  pub size-cons : (x : Selection S) (xs : List (Selection S)) → size (x ∷ xs) ≡ size (x ∷ []) + size xs
  unfolding size
  size-cons x xs = bare-sums x (chain (map without_spreads xs) none)

  pub size-Field : (x : Placed (Field S)) → 1 ≤ size (selection.Field x ∷ [])
  unfolding size
  size-Field x = omega (arith, bare-Field x none)

  size-one-Inline : (x : Placed (InlineFragment S)) → size (selection.InlineFragment x ∷ []) ≡ size x.item.selection_set + 0
  unfolding size
  size-one-Inline x = bare-Inline x none

  pub size-Inline : (x : Placed (InlineFragment S)) → size x.item.selection_set ≤ size (selection.InlineFragment x ∷ [])
  size-Inline x = omega (arith, size-one-Inline x)

  -- the turns through a selection, and through a set
  pub some-turns : (x : Selection S) → 0 < selection_turns x
  some-turns x = omega (arith, counted x)
    where
      counted : (y : Selection S) → 0 < selection_count y
      counted = selection_ind (λ y. 0 < selection_count y)
          (λ y h. omega (arith, fold_field count_layer field_count_layer inline_count_layer y))
          (λ y. omega (arith, fold_spread count_layer field_count_layer inline_count_layer y))
          (λ y h. omega (arith, count_inline y))

  pub turns-Inline : (x : Placed (InlineFragment S)) → turns x.item.selection_set < selection_turns (selection.InlineFragment x)
  turns-Inline x = omega (arith, count_inline x)

  pub turns-cons : (x : Selection S) (xs : List (Selection S)) → turns (x ∷ xs) ≡ selection_turns x + turns xs
  turns-cons x xs = omega (arith, sum_by-cons selection_count x xs)

  -- one set more
  pub rests-push : (sets more : Open S) (set : OpenSet S) → more ≡ sets ++ set ∷ [] → rests more ≡ rest_of set ∷ rests sets
  rests-push sets more set e = ap rests e ∙ ap (map rest_of) (reverse-append sets (set ∷ []))

  pub open-push : (measure : List (Selection S) → ℕ) (sets more : Open S) (set : OpenSet S) → more ≡ sets ++ set ∷ []
      → sum_by measure (rests more) ≡ measure (rest_of set) + sum_by measure (rests sets)
  open-push measure sets more set e =
      ap (sum_by measure) (rests-push sets more set e) ∙ sum_by-cons measure (rest_of set) (rests sets)

  -- what is left of a set: its next selection, before the others
  pub rest-next : (set : OpenSet S) (x : Selection S) → set.next < length set.among.now → x ≡ get_or set.among.now set.next x
      → rest_of set ≡ x ∷ drop (set.next + 1) set.among.now
  rest-next set x within is =
      drop_more set.among.now set.next x within ∙ ap (λ y. y ∷ drop (set.next + 1) set.among.now) (sym is)

  -- of a set at its end nothing is left
  pub rest-none : (set : OpenSet S) → length set.among.now ≤ set.next → rest_of set ≡ []
  rest-none set at_end = drop_all set.next set.among.now at_end

  module _ (measure : List (Selection S) → ℕ) where
    left-less : (fs : List (Fragment S)) (visited : List Bytes) (name : Bytes) → left_by measure (visited ++ name ∷ []) fs ≤ left_by measure visited fs
    left-less [] visited name = omega arith
    left-less (f ∷ fs) visited name = omega (arith, less-one f.name.item name visited (measure f.selection_set), left-less fs visited name)

    -- a fragment that is entered takes its own with it
    pub left-enter : (fs : List (Fragment S)) (visited : List Bytes) (name : Bytes) (f : Fragment S) → fragment_meant fs name ≡ Some f → list_any (bytes_eq name) visited ≡ false
        → measure f.selection_set + left_by measure (visited ++ name ∷ []) fs ≤ left_by measure visited fs
    left-enter [] visited name f e new = cc
    left-enter (g ∷ gs) visited name f e new = cases (left-enter gs visited name f) (bytes_eq g.name.item name) refl e
      where
        cases : (fragment_meant gs name ≡ Some f → list_any (bytes_eq name) visited ≡ false → measure f.selection_set + left_by measure (visited ++ name ∷ []) gs ≤ left_by measure visited gs)
            → (q : Bool) → bytes_eq g.name.item name ≡ q → cond q (Some g) (find (λ h. bytes_eq h.name.item name) gs) ≡ Some f
            → measure f.selection_set + left_by measure (visited ++ name ∷ []) (g ∷ gs) ≤ left_by measure visited (g ∷ gs)
        cases ih true t is =
            let named : g.name.item ≡ name = (bytes_eq-Decides g.name.item name).0 t in
            let same : g ≡ f = cc in
            let gone : list_any (bytes_eq g.name.item) (visited ++ name ∷ []) ≡ true = subst (λ k. list_any (bytes_eq k) (visited ++ name ∷ []) ≡ true) (sym named) (any-last name visited) in
            let there : list_any (bytes_eq g.name.item) visited ≡ false = subst (λ k. list_any (bytes_eq k) visited ≡ false) (sym named) new in
            rw (gone, there) (omega (arith, left-less gs visited name, ap (λ (h : Fragment S). measure h.selection_set) same))
        cases ih false t is = omega (arith, ih is new, less-one g.name.item name visited (measure g.selection_set))

  below-last : (x : CollectedField S) (xs : Lent S) → size_below (xs ++ x ∷ []) ≡ size_below xs + size (listed x.field.now.item.selection_set)
  below-last x [] = omega arith
  below-last x (y ∷ ys) = omega (arith, below-last x ys)

  pub below-more : (xs : Lent S) (i : ℕ) (x : CollectedField S) → i < length xs → x ≡ get_or xs i x → size_below (take (i + 1) xs) ≡ size_below (take i xs) + size (listed x.field.now.item.selection_set)
  below-more xs i x within is = ap size_below (take_more xs i x within ∙ ap (λ z. take i xs ++ z ∷ []) (sym is)) ∙ below-last x (take i xs)
