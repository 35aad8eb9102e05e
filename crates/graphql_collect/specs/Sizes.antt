-- How many fields are written in sets and fragments, and how many turns a walk takes through them.
use Rattle.std.specs.Prelude.{◌≤◌, ◌<◌, ◌+◌, ◌*◌, ℕ, List, [], ◌∷◌, ◌++◌, map, if◌then◌else◌}
use Rattle.std.specs.List.{list_any, sum_by}
use Rattle.std.specs.Str.{bytes_eq}
use Rattle.graphql_tree.specs.Counts.{selection_count, set_count}
use Rattle.graphql_tree.specs.declared.document.Fragment.{Fragment}
use Rattle.graphql_tree.specs.declared.selection.Selection.{Selection}
use Rattle.graphql_written_out.specs.Trees.{Tree, none, field, inline}
use Rattle.graphql_names.specs.Names.{Bytes}
use Rattle.graphql_written_out.specs.Written.{Before, chain, write_with, listed}
use Rattle.graphql_collect.specs.Grouped.{Lent}
use Rattle.graphql_collect.specs.OpenSets.{Open, rests}
use Rattle.graphql_collect.specs.declared.collecting.Brought.{Brought}
use Rattle.graphql_collect.specs.declared.collecting.Brought.TheVariants as brought

module _ {S : Type 0} where
  -- the fields of a set, with those of its inline fragments
  abbrev pub tree_size : Tree S → ℕ
  tree_size none = 0
  tree_size (field head directives below rest) = 1 + tree_size rest
  tree_size (inline on directives below rest) = tree_size below + tree_size rest

  -- a selection whose spreads are left out
  unfoldable pub without_spreads : Selection S → Before S
  without_spreads = write_with (λ x rest. rest)

  -- how many fields a set has of its own, its spreads left out
  unfoldable pub size : List (Selection S) → ℕ
  size set = tree_size (chain (map without_spreads set) none)

  -- the turns through a selection, at most
  abbrev pub selection_turns : Selection S → ℕ
  selection_turns x = 2 * selection_count x

  -- the turns through a set, with one for its end
  abbrev pub turns : List (Selection S) → ℕ
  turns set = 1 + 2 * set_count set

  -- what the sets of the fragments measure that are not entered yet
  abbrev pub left_by : (List (Selection S) → ℕ) → List Bytes → List (Fragment S) → ℕ
  left_by measure visited [] = 0
  left_by measure visited (f ∷ fs) =
      (if list_any (bytes_eq f.name.item) visited then 0 else measure f.selection_set)
      + left_by measure visited fs

  -- how many fields they have
  abbrev pub left_in : List Bytes → List (Fragment S) → ℕ
  left_in = left_by size

  -- how many fields are left in open sets
  abbrev pub size_open : Open S → ℕ
  size_open sets = sum_by size (rests sets)

  -- the turns through what is left of open sets and through the fragments that are not entered yet
  abbrev pub turns_ahead : List (Fragment S) → Open S → List Bytes → ℕ
  turns_ahead fragments sets visited = sum_by turns (rests sets) + left_by turns visited fragments

  -- how many fields the sets of fields have of their own
  abbrev pub size_below : Lent S → ℕ
  size_below [] = 0
  size_below (x ∷ xs) = size (listed x.field.now.item.selection_set) + size_below xs

  -- a selection brings no more than is written
  abbrev pub IsSized : List (Fragment S) → List Bytes → Selection S → Brought S → Type 0
  IsSized fragments visited x brought.Nothing = Unit {0}
  IsSized fragments visited x (brought.Field f) = 1 ≤ size (x ∷ [])
  IsSized fragments visited x (brought.Set set) =
      (size set.now ≤ size (x ∷ [])) × (turns set.now < selection_turns x)
  IsSized fragments visited x (brought.Fragment spread set) =
      (size set.now + left_in (visited ++ spread.now.item.name.item ∷ []) fragments
      ≤ left_in visited fragments)
      × (turns set.now + left_by turns (visited ++ spread.now.item.name.item ∷ []) fragments
      ≤ left_by turns visited fragments)
