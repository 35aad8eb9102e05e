-- How many selections stand in a field and in an inline fragment, and in a set of which the first selection is another one.
use Rattle.std.proofs.Common.{◌≡◌, ℕ, ◌+◌, ◌<◌, List, Option, Some, None, map, length, get_or, set as with_at, refl, ap, ◌∙◌, arith}
use Rattle.std.specs.Prelude.{MatchOption}
use Rattle.std.specs.Option.{option_map}
use Rattle.std.proofs.lemmas.List.Sums.{sum-map, sum_by-set}
use Rattle.graphql_values.specs.InputValues.{Placed}
use Rattle.graphql_tree.specs.declared.selection.Field.{Field}
use Rattle.graphql_tree.specs.declared.selection.InlineFragment.{InlineFragment}
use Rattle.graphql_tree.specs.declared.selection.Selection.{Selection}
use Rattle.graphql_tree.specs.declared.selection.Selection.TheVariants as selection
use Rattle.graphql_tree.specs.Counts.{selection_count, set_count, count_layer, field_count_layer, inline_count_layer}
use Rattle.graphql_tree.proofs.SelectionEquations.{fold_field, fold_inline, fold_in_field, fold_in_inline, field_layer}

module _ {S : Type 0} where
  -- those of a set, if there is one
  abbrev pub optional_count : Option (List (Selection S)) → ℕ
  optional_count None = 0
  optional_count (Some set) = set_count set

  at_set : (f : Field S) (set : Option (List (Selection S))) → field_count_layer (field_layer f (option_map (map selection_count) set)) ≡ optional_count set
  at_set f None = refl
  at_set f (Some set) = sum-map selection_count set

  count_field : (x : Placed (Field S)) → selection_count (selection.Field x) ≡ 1 + optional_count x.item.selection_set
  count_field x = fold_field count_layer field_count_layer inline_count_layer x ∙ ap (λ n. 1 + n) (fold_in_field count_layer field_count_layer inline_count_layer x.item ∙ at_set x.item x.item.selection_set)

  pub count_inline : (x : Placed (InlineFragment S)) → selection_count (selection.InlineFragment x) ≡ 1 + set_count x.item.selection_set
  count_inline x = fold_inline count_layer field_count_layer inline_count_layer x ∙ ap (λ n. 1 + n) (fold_in_inline count_layer field_count_layer inline_count_layer x.item ∙ sum-map selection_count x.item.selection_set)

  beside : (set : Option (List (Selection S))) (n : ℕ) → n ≡ 1 + optional_count set → MatchOption set (n ≡ 1) (λ xs. n ≡ 1 + set_count xs)
  beside None n e = e
  beside (Some xs) n e = e

  -- of a selection that is one of these forms, by the set within it
  pub count_by_field : (s : Selection S) (x : Placed (Field S)) → s ≡ selection.Field x → MatchOption x.item.selection_set (selection_count s ≡ 1) (λ set. selection_count s ≡ 1 + set_count set)
  count_by_field s x is = beside x.item.selection_set (selection_count s) (ap selection_count is ∙ count_field x)

  pub count_by_inline : (s : Selection S) (x : Placed (InlineFragment S)) → s ≡ selection.InlineFragment x → selection_count s ≡ 1 + set_count x.item.selection_set
  count_by_inline s x is = ap selection_count is ∙ count_inline x

  -- the first selection of a set, and the set with another one in its place
  pub with_first : (set : List (Selection S)) (first other : Selection S) → 0 < length set → first ≡ get_or set 0 first → selection_count first + set_count (with_at set 0 other) ≡ set_count set + selection_count other
  with_first set first other some is = omega (arith, sum_by-set selection_count set 0 other first some, ap selection_count is)
