-- What is open while children are gathered, and how many turns it takes to go through it.
use Rattle.std.specs.Prelude.{◌≡◌, ◌+◌, ◌<◌, ℕ, Bool, List, [], ◌∷◌, ◌++◌, map, drop, reverse}
use Rattle.std.specs.Prelude.{Option, Some, None}
use Rattle.std.specs.List.{sum_by}
use Rattle.graphql_names.specs.Names.{Bytes}
use Rattle.graphql_values.specs.InputValues.{Placed}
use Rattle.graphql_written_out.specs.Trees.{Directives, Tree, none, field, inline}
use Rattle.graphql_written_out.specs.Written.{fragment_meant, written}
use Rattle.graphql_tree.specs.declared.document.Fragment.{Fragment}
use Rattle.graphql_tree.specs.declared.selection.FragmentSpread.{FragmentSpread}
use Rattle.graphql_tree.specs.declared.selection.Selection.{Selection}
use Rattle.graphql_tree.specs.declared.selection.Selection.TheVariants as selection
use Rattle.graphql_look_ahead.specs.Applies.{only_of}
use Rattle.graphql_look_ahead.specs.Children.{Ahead, Children}
use Rattle.graphql_look_ahead.specs.declared.open.Met.{Met}
use Rattle.graphql_look_ahead.specs.declared.open.Met.TheVariants as met
use Rattle.graphql_look_ahead.specs.declared.open.Open.{Open}

-- a list of selections, and to what it is bound
abbrev pub OpenSet : Type 0 → Type 0
OpenSet S = Option Bytes × List (Selection S)

module _ {S : Type 0} where
  -- what is left of a list
  abbrev pub rest_of : Open S → List (Selection S)
  rest_of o = drop o.next o.among.now

  abbrev pub open_set : Open S → OpenSet S
  open_set o = (only_of o.applies, rest_of o)

  -- what is open, the innermost first
  abbrev pub opened : List (Open S) → List (OpenSet S)
  opened os = reverse (map open_set os)

  -- the turns through a set that is written out, with one for its end and two for each fragment
  abbrev pub tree_turns : Tree S → ℕ
  tree_turns none = 1
  tree_turns (field head directives below rest) = 1 + tree_turns rest
  tree_turns (inline on directives below rest) = 2 + tree_turns below + tree_turns rest

  abbrev pub turns_of : List (Fragment S) → List (Selection S) → ℕ
  turns_of fragments set = tree_turns (written fragments set)

  abbrev pub turns_open : List (Fragment S) → List (OpenSet S) → ℕ
  turns_open fragments os = sum_by (λ o. turns_of fragments o.1) os

module _ {S : Type 0} (fragments : List (Fragment S)) where
  -- a selection with what it means
  abbrev pub IsMet : Selection S → Met S → Type 0
  IsMet first (met.Field x) = first ≡ selection.Field x.now
  IsMet first (met.Inline x) = first ≡ selection.InlineFragment x.now
  IsMet first (met.Spread x f) = (first ≡ selection.FragmentSpread x.now)
      × (fragment_meant fragments x.now.item.name.item ≡ Some f.now)

  -- a spread that means nothing
  abbrev pub IsUnknown : Selection S → Type 0
  IsUnknown first = (x : Placed (FragmentSpread S))
      × (first ≡ selection.FragmentSpread x)
      × (fragment_meant fragments x.item.name.item ≡ None)

module _ {S : Type 0} (drops : Directives S → Bool) (fragments : List (Fragment S)) where
  -- the children of open sets, one after the other
  abbrev pub AllHave : List (OpenSet S) → List (Ahead S) → Type 0
  AllHave [] cs = cs ≡ []
  AllHave (o ∷ os) cs = (own : List (Ahead S))
      × (more : List (Ahead S))
      × Children drops fragments o.0 o.1 own
      × AllHave os more
      × (cs ≡ own ++ more)

  -- as what children are found
  module _ {X : Type 0} (shown : Ahead S → X) where
    -- a step: what is found and what is open now are together what they were before
    abbrev pub Steps : List (OpenSet S) → List X → List (OpenSet S) → List X → Type 0
    Steps before found now found_then =
        (cs : List (Ahead S)) → AllHave now cs
        → (ds : List (Ahead S))
        × AllHave before ds
        × (found ++ map shown ds ≡ found_then ++ map shown cs)

    -- a turn: a step, nearer to the end
    pub record IsTurn (before : List (OpenSet S)) (found : List X) (now : List (OpenSet S))
        (found_then : List X) : Type 0 where
      pub steps : Steps before found now found_then
      pub nearer : turns_open fragments now < turns_open fragments before

    -- the children of a list, which is bound to nothing, come behind those that were found
    abbrev pub AddsChildren : List (Selection S) → List X → List X → Type 0
    AddsChildren set before after = (own : List (Ahead S))
        × Children drops fragments None set own
        × (after ≡ before ++ map shown own)

  -- what stands before the rest has no children, and passing over it takes no turns
  pub record Skips (set rest : List (Selection S)) : Type 0 where
    pub children : (only : Option Bytes) (cs : List (Ahead S))
        → Children drops fragments only rest cs → Children drops fragments only set cs
    pub none : (only : Option Bytes) (cs : List (Ahead S)) → Children drops fragments only set cs
        → Children drops fragments only rest cs
    pub turns : turns_of fragments set ≡ turns_of fragments rest

  -- what comes first that can have children, and what is left behind it
  abbrev pub IsNext : List (Selection S) → Option (Met S) → List (Selection S) → Type 0
  IsNext set None rest = Skips set []
  IsNext set (Some x) rest =
      (first : Selection S) × IsMet fragments first x × Skips set (first ∷ rest)
