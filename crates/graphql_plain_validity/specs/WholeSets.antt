-- Selection sets of documents in which each set that is written has a selection (GraphQL October
-- 2021, 2.4 Selection Sets, 2.8.2 Inline Fragments).
use Rattle.std.specs.Prelude.{List, [], ◌∷◌, Option, Some, None}
use Rattle.graphql_values.specs.InputValues.{Placed}
use Rattle.graphql_tree.specs.declared.document.Definition.{Definition}
use Rattle.graphql_tree.specs.declared.document.Definition.TheVariants as definition
use Rattle.graphql_tree.specs.declared.selection.Field.{Field}
use Rattle.graphql_tree.specs.declared.selection.FragmentSpread.{FragmentSpread}
use Rattle.graphql_tree.specs.declared.selection.InlineFragment.{InlineFragment}
use Rattle.graphql_tree.specs.declared.selection.Selection.{Selection}
use Rattle.graphql_tree.specs.declared.selection.Selection.TheVariants as selection

module _ {S : Type 0} where
  mutual
    -- a field may have no set, an inline fragment has one
    pub data IsWhole : Selection S → Type 0 where
      whole_field : (x : Placed (Field S)) → IsWholeIfThere x.item.selection_set
          → IsWhole (selection.Field x)
      whole_spread : (x : Placed (FragmentSpread S)) → IsWhole (selection.FragmentSpread x)
      whole_inline : (x : Placed (InlineFragment S)) → IsWholeSet x.item.selection_set
          → IsWhole (selection.InlineFragment x)

    pub data IsWholeIfThere : Option (List (Selection S)) → Type 0 where
      no_set : IsWholeIfThere None
      whole_set : (xs : List (Selection S)) → IsWholeSet xs → IsWholeIfThere (Some xs)

    -- one selection, or more
    pub data IsWholeSet : List (Selection S) → Type 0 where
      one_selection : (x : Selection S) → IsWhole x → IsWholeSet (x ∷ [])
      more_selections : (x : Selection S) (xs : List (Selection S)) → IsWhole x → IsWholeSet xs
          → IsWholeSet (x ∷ xs)

  -- the set of an operation or of a fragment
  abbrev pub definition_set : Definition S → List (Selection S)
  definition_set (definition.Operation o) = o.item.selection_set
  definition_set (definition.Fragment f) = f.item.selection_set
