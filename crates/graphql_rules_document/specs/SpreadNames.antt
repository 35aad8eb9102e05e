-- The fragments that selections spread, as they are written (GraphQL October 2021, 2.8 Fragments,
-- 5.5.2.2 Fragment Spreads Must Not Form Cycles).
use Rattle.std.specs.Prelude.{◌≡◌, ℕ, zero, suc, List, [], ◌∷◌, Some, None}
use Rattle.std.specs.List.{All, flat_map}
use Rattle.graphql_names.specs.Names.{Bytes}
use Rattle.graphql_tree.specs.declared.document.Fragment.{Fragment}
use Rattle.graphql_tree.specs.declared.selection.Selection.{Selection, fold-Selection}
use Rattle.graphql_tree.specs.declared.selection.Selection.TheOpen.{Selection-F, Field-F}
use Rattle.graphql_tree.specs.declared.selection.Selection.TheOpen.{InlineFragment-F}
use Rattle.graphql_written_out.specs.Written.{listed, fragment_meant}

module _ {S : Type 0} where
  abbrev pub selection_layer : Selection-F S (List Bytes) (List Bytes) (List Bytes) → List Bytes
  selection_layer (Selection-F.Field x) = x.item
  selection_layer (Selection-F.FragmentSpread x) = x.item.name.item ∷ []
  selection_layer (Selection-F.InlineFragment x) = x.item

  abbrev pub field_layer : Field-F S (List Bytes) (List Bytes) (List Bytes) → List Bytes
  field_layer f = flat_map (λ names. names) (listed f.selection_set)

  abbrev pub inline_layer : InlineFragment-F S (List Bytes) (List Bytes) (List Bytes) → List Bytes
  inline_layer i = flat_map (λ names. names) i.selection_set

  -- the names that a selection spreads, at every depth, in the order of the text
  unfoldable pub spread_names : Selection S → List Bytes
  spread_names = fold-Selection S (List Bytes) (List Bytes) (List Bytes) selection_layer field_layer
      inline_layer

  abbrev pub names_in : List (Selection S) → List Bytes
  names_in = flat_map spread_names

  -- what is written out for a spread of this name ends within so many levels: within none where it
  -- means no fragment, else a level behind what its fragment spreads
  abbrev pub WrittenWithin : List (Fragment S) → ℕ → Bytes → Type 0
  WrittenWithin fragments zero name = fragment_meant fragments name ≡ None
  WrittenWithin fragments (suc n) name = (f : Fragment S) → fragment_meant fragments name ≡ Some f
      → All (WrittenWithin fragments n) (names_in f.selection_set)
