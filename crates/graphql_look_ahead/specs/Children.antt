-- The children of a list of selections: the fields that stand in it, also through spreads and
-- inline fragments, in order, but for what is left out (GraphQL October 2021, 2.4 Selection Sets,
-- 2.8 Fragments).
use Rattle.std.specs.Prelude.{◌≡◌, true, false, List, [], ◌∷◌, ◌++◌, Bool, Option, Some, None}
use Rattle.graphql_names.specs.Names.{Bytes}
use Rattle.graphql_values.specs.InputValues.{Placed}
use Rattle.graphql_tree.specs.declared.document.Fragment.{Fragment}
use Rattle.graphql_tree.specs.declared.selection.Field.{Field}
use Rattle.graphql_tree.specs.declared.selection.FragmentSpread.{FragmentSpread}
use Rattle.graphql_tree.specs.declared.selection.InlineFragment.{InlineFragment}
use Rattle.graphql_tree.specs.declared.selection.Selection.{Selection, out-Selection}
use Rattle.graphql_tree.specs.declared.selection.Selection.TheOpen.{Selection-F}
use Rattle.graphql_tree.specs.declared.selection.Selection.TheVariants as selection
use Rattle.graphql_written_out.specs.Trees.{Directives}
use Rattle.graphql_written_out.specs.Written.{condition_of, fragment_meant, listed}
use Rattle.graphql_look_ahead.specs.Applies.{bound}

-- a selection whose set is not gone into
abbrev pub Opened : Type 0 → Type 0
Opened S = Selection-F S (Selection S) (Field S) (InlineFragment S)

-- what is looked at: a field, and the type to which it is bound, if to one; or what stands for a
-- field of which only the response key is known, and what is selected below it
pub data Ahead (S : Type 0) : Type 0 where
  a_field : Placed (Field S) → Option Bytes → Ahead S
  a_key : Bytes → List (Selection S) → Ahead S

module _ {S : Type 0} where
  abbrev pub opened_directives : Opened S → Directives S
  opened_directives (Selection-F.Field x) = listed x.item.directives
  opened_directives (Selection-F.FragmentSpread x) = listed x.item.directives
  opened_directives (Selection-F.InlineFragment x) = listed x.item.directives

  -- the directives of a selection
  abbrev pub directives_of : Selection S → Directives S
  directives_of x = opened_directives (out-Selection S x)

-- `drops`: which directives leave a selection out
module _ {S : Type 0} (drops : Directives S → Bool) (fragments : List (Fragment S)) where
  -- the children of a list that stands where things are bound to a type, or to none
  pub data Children : Option Bytes → List (Selection S) → List (Ahead S) → Type 0 where
    no_more : (only : Option Bytes) → Children only [] []
    left_out : (only : Option Bytes) (x : Selection S) (xs : List (Selection S))
        (cs : List (Ahead S)) → drops (directives_of x) ≡ true
        → Children only xs cs → Children only (x ∷ xs) cs
    -- a field is a child
    of_field : (only : Option Bytes) (x : Placed (Field S)) (xs : List (Selection S))
        (cs : List (Ahead S)) → drops (listed x.item.directives) ≡ false
        → Children only xs cs → Children only (selection.Field x ∷ xs) (a_field x only ∷ cs)
    -- a spread has the children of the fragment that it means, bound as the spread is; one that
    -- means none has none
    of_spread : (only : Option Bytes) (x : Placed (FragmentSpread S)) (f : Fragment S)
        (xs : List (Selection S)) (inner cs : List (Ahead S))
        → drops (listed x.item.directives) ≡ false
        → fragment_meant fragments x.item.name.item ≡ Some f
        → Children only f.selection_set inner → Children only xs cs
        → Children only (selection.FragmentSpread x ∷ xs) (inner ++ cs)
    of_unknown : (only : Option Bytes) (x : Placed (FragmentSpread S)) (xs : List (Selection S))
        (cs : List (Ahead S))
        → fragment_meant fragments x.item.name.item ≡ None → Children only xs cs
        → Children only (selection.FragmentSpread x ∷ xs) cs
    -- an inline fragment binds to its condition, if it has one
    of_inline : (only : Option Bytes) (x : Placed (InlineFragment S)) (xs : List (Selection S))
        (inner cs : List (Ahead S)) → drops (listed x.item.directives) ≡ false
        → Children (bound only (condition_of x.item)) x.item.selection_set inner
        → Children only xs cs → Children only (selection.InlineFragment x ∷ xs) (inner ++ cs)

  -- there is a list of its children, be it empty
  abbrev pub HasChildren : Option Bytes → List (Selection S) → Type 0
  HasChildren only set = (children : List (Ahead S)) × Children only set children
