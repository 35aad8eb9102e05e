-- Selections that are lent: a list, or those of the sets of fields.
use Rattle.std.specs.Prelude.{List, [], ◌∷◌, Option, Some, None, if◌then◌else◌}
use Rattle.std.specs.List.{flat_map}
use Rattle.std.specs.Option.{option_or}
use Rattle.std.specs.Str.{bytes_eq}
use Rattle.graphql_names.specs.Names.{Bytes}
use Rattle.graphql_values.specs.InputValues.{Placed}
use Rattle.graphql_tree.specs.declared.selection.Field.{Field}
use Rattle.graphql_tree.specs.declared.selection.Selection.{Selection, out-Selection}
use Rattle.graphql_tree.specs.declared.selection.Selection.TheOpen.{Selection-F}
use Rattle.graphql_written_out.specs.Written.{listed, response_key}
use Rattle.graphql_collected.specs.declared.collected_field.CollectedField.{CollectedField}
use Rattle.graphql_look_ahead.specs.Children.{Ahead, Opened, a_field, a_key}
use Rattle.graphql_look_ahead.specs.declared.selected.Selected.{Selected}
use Rattle.graphql_look_ahead.specs.declared.selected.Selected.TheVariants as selected

module _ {S : Type 0} where
  -- the selections of a field
  abbrev pub set_below : Placed (Field S) → List (Selection S)
  set_below x = listed x.item.selection_set

  -- the selections of a field that was collected
  abbrev pub below_collected : CollectedField S → List (Selection S)
  below_collected x = set_below x.field.now

  -- all of them, in order
  abbrev pub selections_of : Selected S → List (Selection S)
  selections_of (selected.Set set) = set.now
  selections_of (selected.Below fields) = flat_map below_collected fields.now

  abbrev pub none_or : Option (Selected S) → List (Selection S)
  none_or None = []
  none_or (Some given) = selections_of given

  -- the field that a selection is, if it is one of this response key
  abbrev pub opened_of_key : Bytes → Opened S → Option (Placed (Field S))
  opened_of_key key (Selection-F.Field x) =
      if bytes_eq (response_key x.item.alias x.item.name) key then Some x else None
  opened_of_key key (Selection-F.FragmentSpread x) = None
  opened_of_key key (Selection-F.InlineFragment x) = None

  -- the first field of a response key that directly stands in a list, left out or not
  abbrev pub first_of_key : Bytes → List (Selection S) → Option (Placed (Field S))
  first_of_key key [] = None
  first_of_key key (x ∷ xs) =
      option_or (opened_of_key key (out-Selection S x)) (first_of_key key xs)

  -- it, bound to no type, or the key in its stead with what is selected below it
  abbrev pub field_or_key : Option (Placed (Field S)) → Bytes → List (Selection S) → Ahead S
  field_or_key (Some x) key below = a_field x None
  field_or_key None key below = a_key key below
