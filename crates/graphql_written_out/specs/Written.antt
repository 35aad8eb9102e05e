-- Selection sets with their spreads written out (GraphQL October 2021, 2.7 Field Alias, 2.8
-- Fragments).
use Rattle.std.specs.Prelude.{◌≡◌, ℕ, zero, suc, List, [], ◌∷◌, map, length, Option, Some, None}
use Rattle.std.specs.Option.{option_map, is_some}
use Rattle.graphql_names.specs.Names.{Bytes, named}
use Rattle.graphql_text.specs.declared.position.SourcePosition.{SourcePosition}
use Rattle.graphql_values.specs.InputValues.{Placed}
use Rattle.graphql_tree.specs.Documents.{arguments_in}
use Rattle.graphql_tree.specs.declared.document.Fragment.{Fragment}
use Rattle.graphql_tree.specs.declared.selection.Field.{Field}
use Rattle.graphql_tree.specs.declared.selection.FragmentSpread.{FragmentSpread}
use Rattle.graphql_tree.specs.declared.selection.InlineFragment.{InlineFragment}
use Rattle.graphql_tree.specs.declared.selection.Selection.{Selection, fold-Selection}
use Rattle.graphql_tree.specs.declared.selection.Selection.TheOpen.{Selection-F, Field-F}
use Rattle.graphql_tree.specs.declared.selection.Selection.TheOpen.{InlineFragment-F}
use Rattle.graphql_written_out.specs.Trees.{Directives, Head, Tree, none, field, inline}

-- what is listed, which is nothing where there is no list
abbrev pub listed : {A : Type 0} → Option (List A) → List A
listed (Some xs) = xs
listed None = []

-- the fragment that a spread means: the first of its name (5.5.2.1 Fragment Spread Target Defined)
abbrev pub fragment_meant : {S : Type 0} → List (Fragment S) → Bytes → Option (Fragment S)
fragment_meant = named (λ f. f.name.item)

-- the alias, else the name (2.7 Field Alias)
abbrev pub response_key : Option (Placed Bytes) → Placed Bytes → Bytes
response_key (Some alias) name = alias.item
response_key None name = name.item

-- what is written of a field, which begins where its span does
abbrev pub head_of : {S : Type 0} → Placed (Field S) → Head S
head_of x = record {
  key = response_key x.item.alias x.item.name;
  name = x.item.name.item;
  is_aliased = is_some x.item.alias;
  arguments = arguments_in x.item.arguments;
  has_set = is_some x.item.selection_set;
  place = x.span.start;
}

-- the type to which an inline fragment applies, if it names one
abbrev pub condition_of : {S : Type 0} → InlineFragment S → Option Bytes
condition_of i = option_map (λ on. on.item) i.type_condition

-- a selection, written out before what follows it
abbrev pub Before : Type 0 → Type 0
Before S = Tree S → Tree S

module _ {S : Type 0} where
  -- selections one before another, and what follows them
  abbrev pub chain : List (Before S) → Tree S → Tree S
  chain [] rest = rest
  chain (f ∷ fs) rest = f (chain fs rest)

  -- what a spread becomes, given how the set of the fragment that it means is written; one that
  -- means none is nothing
  abbrev pub spread_as : (List (Selection S) → Tree S) → Directives S → Tree S → Option (Fragment S)
      → Tree S
  spread_as write directives rest None = rest
  spread_as write directives rest (Some f) =
      inline (Some f.type_condition.item) directives (write f.selection_set) rest

  module _ (spread : FragmentSpread S → Before S) where
    abbrev pub selection_layer : Selection-F S (Before S) (SourcePosition → Before S) (Before S)
        → Before S
    selection_layer (Selection-F.Field x) = x.item x.span.start
    selection_layer (Selection-F.FragmentSpread x) = spread x.item
    selection_layer (Selection-F.InlineFragment x) = x.item

    abbrev pub field_layer : Field-F S (Before S) (SourcePosition → Before S) (Before S)
        → SourcePosition → Before S
    field_layer f place =
        let head : Head S = record {
          key = response_key f.alias f.name;
          name = f.name.item;
          is_aliased = is_some f.alias;
          arguments = arguments_in f.arguments;
          has_set = is_some f.selection_set;
          place = place;
        } in
        field head (listed f.directives) (chain (listed f.selection_set) none)

    abbrev pub inline_layer : InlineFragment-F S (Before S) (SourcePosition → Before S) (Before S)
        → Before S
    inline_layer i = inline (option_map (λ on. on.item) i.type_condition) (listed i.directives)
        (chain i.selection_set none)

    -- a selection, its spreads written as this says
    abbrev pub write_with : Selection S → Before S
    write_with = fold-Selection S (Before S) (SourcePosition → Before S) (Before S) selection_layer
        field_layer inline_layer

  -- one selection, its spreads written out to a depth; below the depth a spread is nothing
  abbrev pub write_one : ℕ → List (Fragment S) → Selection S → Before S
  write_one zero fragments = write_with (λ x rest. rest)
  write_one (suc depth) fragments =
      write_with (λ x rest. spread_as (λ set. chain (map (write_one depth fragments) set) none)
      (listed x.directives) rest (fragment_meant fragments x.name.item))

  -- a set, its spreads written out to a depth
  abbrev pub write : ℕ → List (Fragment S) → List (Selection S) → Tree S
  write depth fragments set = chain (map (write_one depth fragments) set) none

  -- written out: a path of spreads without a cycle has no more of them than there are fragments
  unfoldable pub written : List (Fragment S) → List (Selection S) → Tree S
  written fragments = write (suc (length fragments)) fragments

  unfoldable pub written_selection : List (Fragment S) → Selection S → Tree S
  written_selection fragments x = write_one (suc (length fragments)) fragments x none

  -- fragments without a cycle: once written out to that depth, nothing is left to write (5.5.2.2
  -- Fragment Spreads Must Not Form Cycles)
  abbrev pub Settled : List (Fragment S) → Type 0
  Settled fragments = (f : Fragment S) (name : Bytes) → fragment_meant fragments name ≡ Some f
      → write (length fragments) fragments f.selection_set ≡ written fragments f.selection_set
