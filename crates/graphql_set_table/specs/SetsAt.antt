-- Selection sets as a document writes them: what stands directly in one (GraphQL October 2021, 2.4
-- Selection Sets, 2.5 Fields, 2.8 Fragments).
use Rattle.std.specs.Prelude.{List, [], ◌∷◌, Some, None}
use Rattle.std.specs.List.{flat_map}
use Rattle.std.specs.Option.{option_map, option_to_list}
use Rattle.graphql_values.specs.InputValues.{Placed}
use Rattle.graphql_tree.specs.declared.document.Definition.{Definition}
use Rattle.graphql_tree.specs.declared.document.Definition.TheVariants as definition
use Rattle.graphql_tree.specs.declared.document.Fragment.{Fragment}
use Rattle.graphql_tree.specs.declared.selection.Field.{Field}
use Rattle.graphql_tree.specs.declared.selection.InlineFragment.{InlineFragment}
use Rattle.graphql_tree.specs.declared.selection.Selection.{Selection, out-Selection}
use Rattle.graphql_tree.specs.declared.selection.Selection.TheOpen.{Selection-F}
use Rattle.graphql_schema.specs.declared.meta.MetaType.{MetaType}
use Rattle.graphql_schema.specs.Declarations.{Declarations}
use Rattle.graphql_schema.specs.Lookups.{type_named}
use Rattle.graphql_occurrences.specs.DeclaredLookups.{root_of}
use Rattle.graphql_written_out.specs.Written.{listed, fragment_meant, condition_of}
use Rattle.graphql_merging.specs.Members.{Scope, inside, scope_of}

-- a set as it is written, and the type that it selects from
pub record SetAt (S C : Type 0) : Type 0 where
  pub scope : Scope S C
  pub selections : List (Selection S)

-- a field as it is written, and the type that its set selects from
pub record FieldAt (S C : Type 0) : Type 0 where
  pub parent : MetaType S C
  pub field : Placed (Field S)

-- a selection whose set is not gone into
abbrev pub Opened : Type 0 → Type 0
Opened S = Selection-F S (Selection S) (Field S) (InlineFragment S)

module _ {S C : Type 0} where
  abbrev pub fields_opened : MetaType S C → Opened S → List (FieldAt S C)
  fields_opened parent (Selection-F.Field x) = record { parent = parent; field = x } ∷ []
  fields_opened parent (Selection-F.FragmentSpread x) = []
  fields_opened parent (Selection-F.InlineFragment x) = []

  -- the field that a selection is, if it is one
  abbrev pub fields_selected : MetaType S C → Selection S → List (FieldAt S C)
  fields_selected parent x = fields_opened parent (out-Selection S x)

  abbrev pub fields_under : Scope S C → List (Selection S) → List (FieldAt S C)
  fields_under None selections = []
  fields_under (Some parent) selections = flat_map (fields_selected parent) selections

  -- the fields that stand directly in a set, in order; of an unknown type there are none
  abbrev pub fields_at : SetAt S C → List (FieldAt S C)
  fields_at set = fields_under set.scope set.selections

module _ {S C : Type 0} (schema : Declarations S C) where
  -- the set of a fragment
  abbrev pub fragment_set : Fragment S → SetAt S C
  fragment_set f =
      record { scope = type_named schema.types f.type_condition.item; selections = f.selection_set }

  -- the set of a definition
  abbrev pub definition_set : Definition S → SetAt S C
  definition_set (definition.Operation o) =
      record { scope = root_of schema o.item.operation_type; selections = o.item.selection_set }
  definition_set (definition.Fragment f) = fragment_set f.item

  -- a field's own set, which is empty where it has none
  abbrev pub own_set : FieldAt S C → SetAt S C
  own_set f = record {
    scope = scope_of schema.types f.parent f.field.item.name.item;
    selections = listed f.field.item.selection_set;
  }

  -- `fragments`: those of the document
  module _ (fragments : List (Fragment S)) where
    abbrev pub inner_opened : MetaType S C → Opened S → List (SetAt S C)
    inner_opened parent (Selection-F.Field x) = []
    inner_opened parent (Selection-F.FragmentSpread x) =
        option_to_list (option_map fragment_set (fragment_meant fragments x.item.name.item))
    inner_opened parent (Selection-F.InlineFragment x) =
        record {
          scope = inside schema.types (Some parent) (condition_of x.item);
          selections = x.item.selection_set;
        } ∷ []

    -- the set of the fragment that a selection is or means, if there is one
    abbrev pub inner_of : MetaType S C → Selection S → List (SetAt S C)
    inner_of parent x = inner_opened parent (out-Selection S x)

    abbrev pub inner_under : Scope S C → List (Selection S) → List (SetAt S C)
    inner_under None selections = []
    inner_under (Some parent) selections = flat_map (inner_of parent) selections

    -- the sets of the fragments that stand directly in a set, spread or inline, in order
    abbrev pub inner_at : SetAt S C → List (SetAt S C)
    inner_at set = inner_under set.scope set.selections
