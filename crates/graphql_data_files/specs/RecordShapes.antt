-- Which member of a file of records has not its shape. Of an object the members are looked at in
-- the order in which the shape names them, the fields of a record and the items of a list in
-- theirs.
use Rattle.std.specs.Prelude.{◌+◌, ℕ, Option, Some, None, is_some, option_map, codes}
use Rattle.std.specs.Prelude.{if◌then◌else◌}
use Rattle.serde_json.specs.Data.{Data, Items, no_items, item, Members, no_members, member}
use Rattle.serde_json.specs.Find.{as_object, get}
use Rattle.graphql_json.specs.Parts.{◌>>=◌, array_at, text_at, ◌or_else◌, unless}
use Rattle.graphql_lines.specs.Request.{data_of}
use Rattle.graphql_names.specs.Names.{Bytes}
use Rattle.graphql_data_files.specs.FileValues.{has_shape}
use Rattle.graphql_data_files.specs.declared.shape_place.ShapePlace.{ShapePlace}
use Rattle.graphql_data_files.specs.declared.shape_place.ShapePlace.TheVariants as place

-- ---- a record

-- the name of the first member that is no value of a field
abbrev pub misshapen : Members → Option Bytes
misshapen no_members = None
misshapen (member k d ms) = if has_shape d then misshapen ms else Some k

abbrev pub members_in : Data → Option Members
members_in d = get (codes "fields") d >>= as_object

-- of the record at this index
module _ (at : ℕ) where
  abbrev pub field_place : Option Bytes → Option ShapePlace
  field_place name = option_map (place.Field at) name

  abbrev pub fields_fault : Option Members → Option ShapePlace
  fields_fault None = Some (place.Fields at)
  fields_fault (Some ms) = field_place (misshapen ms)

  -- its fields aside
  abbrev pub texts_fault : Data → Option ShapePlace
  texts_fault d =
      unless (is_some (as_object d)) (place.Record at)
      or_else unless (is_some (text_at (codes "id") d)) (place.Id at)
      or_else unless (is_some (text_at (codes "type") d)) (place.Type at)

  abbrev pub record_fault : Data → Option ShapePlace
  record_fault d = texts_fault d or_else fields_fault (members_in d)

-- ---- a file

-- of the first record that has one; the records are counted from this number
abbrev pub first_fault : ℕ → Items → Option ShapePlace
first_fault i no_items = None
first_fault i (item d ds) = record_fault i d or_else first_fault (i + 1) ds

abbrev pub items_fault : Option Items → Option ShapePlace
items_fault None = Some place.Records
items_fault (Some ds) = first_fault 0 ds

abbrev pub records_fault : Data → Option ShapePlace
records_fault d = items_fault (array_at (codes "records") d)

abbrev pub roots_fault : Option Data → Option ShapePlace
roots_fault None = Some place.Roots
roots_fault (Some roots) =
    unless (is_some (as_object roots)) place.Roots
    or_else unless (is_some (text_at (codes "query") roots)) place.Root

abbrev pub root_fault : Data → Option ShapePlace
root_fault d = roots_fault (get (codes "roots") d)

-- its records aside
abbrev pub front_fault : Data → Option ShapePlace
front_fault d = unless (is_some (as_object d)) place.File or_else root_fault d

-- of a file that is JSON
abbrev pub file_fault : Data → Option ShapePlace
file_fault d = front_fault d or_else records_fault d

-- of the file of these bytes; bytes that are no JSON have no shape
abbrev pub fault_in : Bytes → Option ShapePlace
fault_in bytes = data_of bytes >>= file_fault
