-- Which member of a file of a schema has not its shape. Of an object the members are looked at in
-- the order in which the shape names them, and of a list the items in their order.
use Rattle.std.specs.Prelude.{◌+◌, ℕ, Option, Some, None, is_some, codes, if◌then◌else◌}
use Rattle.std.specs.Option.{option_map}
use Rattle.serde_json.specs.Data.{Data, Items, no_items, item}
use Rattle.serde_json.specs.Find.{as_array, as_object, get}
use Rattle.graphql_json.specs.Parts.{◌>>=◌, array_at, text_at, text_if, text_of, ◌or_else◌, unless}
use Rattle.graphql_lines.specs.Request.{data_of}
use Rattle.graphql_names.specs.Names.{Bytes}
use Rattle.graphql_schema_files.specs.Shapes.{kind_in}
use Rattle.graphql_schema_files.specs.declared.drafts.DraftKind.{DraftKind}
use Rattle.graphql_schema_files.specs.declared.drafts.DraftKind.TheVariants as kind
use Rattle.graphql_schema_files.specs.declared.wanted.Member.{Member}
use Rattle.graphql_schema_files.specs.declared.wanted.Member.TheVariants as member
use Rattle.graphql_schema_files.specs.declared.wanted.Wanted.{Wanted}
use Rattle.graphql_schema_files.specs.declared.wanted.Wanted.TheVariants as wanted
use Rattle.graphql_schema_files.specs.declared.wanted.ShapeFault.{ShapeFault}

-- the name of a member
abbrev pub key_of : Member → Bytes
key_of member.Query = codes "query"
key_of member.Mutation = codes "mutation"
key_of member.Types = codes "types"
key_of member.Kind = codes "kind"
key_of member.Name = codes "name"
key_of member.Fields = codes "fields"
key_of member.Interfaces = codes "interfaces"
key_of member.Members = codes "members"
key_of member.TypeText = codes "type"
key_of member.Arguments = codes "args"
key_of member.DefaultText = codes "default"

-- ---- where a fault stands

-- this itself is something else than is wanted
abbrev pub here : Wanted → ShapeFault
here w = record {
  type_index = None;
  field_index = None;
  argument_index = None;
  member = None;
  name_index = None;
  wanted = w;
}

-- the member is missing, or something else than is wanted
abbrev pub at_member : Member → Wanted → ShapeFault
at_member m w = record {
  type_index = None;
  field_index = None;
  argument_index = None;
  member = Some m;
  name_index = None;
  wanted = w;
}

-- a fault of the name that is this item of the member's list
abbrev pub in_names : Member → ℕ → ShapeFault → ShapeFault
in_names m i fault = record {
  type_index = None;
  field_index = None;
  argument_index = None;
  member = Some m;
  name_index = Some i;
  wanted = fault.wanted;
}

-- a fault in this argument of a field
abbrev pub in_argument : ℕ → ShapeFault → ShapeFault
in_argument i fault = record {
  type_index = None;
  field_index = None;
  argument_index = Some i;
  member = fault.member;
  name_index = fault.name_index;
  wanted = fault.wanted;
}

-- a fault in this field of a type
abbrev pub in_field : ℕ → ShapeFault → ShapeFault
in_field i fault = record {
  type_index = None;
  field_index = Some i;
  argument_index = fault.argument_index;
  member = fault.member;
  name_index = fault.name_index;
  wanted = fault.wanted;
}

-- a fault in this type of the file
abbrev pub in_type : ℕ → ShapeFault → ShapeFault
in_type i fault = record {
  type_index = Some i;
  field_index = fault.field_index;
  argument_index = fault.argument_index;
  member = fault.member;
  name_index = fault.name_index;
  wanted = fault.wanted;
}

-- ---- objects, texts and lists

abbrev pub object_fault : Data → Option ShapeFault
object_fault d = unless (is_some (as_object d)) (here wanted.Object)

abbrev pub name_fault : Data → Option ShapeFault
name_fault d = unless (is_some (text_of d)) (here wanted.Text)

-- of a text that must stand under a key, and of one that may be missing
abbrev pub text_fault : Member → Data → Option ShapeFault
text_fault m d = unless (is_some (text_at (key_of m) d)) (at_member m wanted.Text)

abbrev pub text_if_fault : Member → Data → Option ShapeFault
text_if_fault m d = unless (is_some (text_if (key_of m) d)) (at_member m wanted.Text)

-- by where a fault of an item stands in what has the list, and the faults of items
module _ (within : ℕ → ShapeFault → ShapeFault) (fault_of : Data → Option ShapeFault) where
  -- of the first item that has one; the items are counted from this number
  abbrev pub first_fault : ℕ → Items → Option ShapeFault
  first_fault i no_items = None
  first_fault i (item d ds) = option_map (within i) (fault_of d) or_else first_fault (i + 1) ds

  -- of what stands at a member, if it is a list
  abbrev pub items_fault : Member → Option Items → Option ShapeFault
  items_fault m None = Some (at_member m wanted.List)
  items_fault m (Some ds) = first_fault 0 ds

  -- of a list that must stand under a key
  abbrev pub list_fault : Member → Data → Option ShapeFault
  list_fault m d = items_fault m (array_at (key_of m) d)

  -- of one that may be missing
  abbrev pub found_fault : Member → Option Data → Option ShapeFault
  found_fault m None = None
  found_fault m (Some value) = items_fault m (as_array value)

  abbrev pub list_if_fault : Member → Data → Option ShapeFault
  list_if_fault m d = found_fault m (get (key_of m) d)

-- ---- what a file declares

abbrev pub argument_fault : Data → Option ShapeFault
argument_fault d =
    object_fault d or_else text_fault member.Name d or_else text_fault member.TypeText d
    or_else text_if_fault member.DefaultText d

abbrev pub field_fault : Data → Option ShapeFault
field_fault d =
    object_fault d or_else text_fault member.Name d or_else text_fault member.TypeText d
    or_else list_if_fault in_argument argument_fault member.Arguments d

-- the fields of an object or an interface
abbrev pub fields_fault : DraftKind → Data → Option ShapeFault
fields_fault kind.Object d = list_fault in_field field_fault member.Fields d
fields_fault kind.Interface d = list_fault in_field field_fault member.Fields d
fields_fault kind.Union d = None

-- the interfaces of an object or an interface, and the members of a union
abbrev pub listed_fault : DraftKind → Data → Option ShapeFault
listed_fault kind.Object d =
    list_if_fault (in_names member.Interfaces) name_fault member.Interfaces d
listed_fault kind.Interface d =
    list_if_fault (in_names member.Interfaces) name_fault member.Interfaces d
listed_fault kind.Union d = list_fault (in_names member.Members) name_fault member.Members d

-- what its kind asks of a type, where it has one
abbrev pub parts_fault : Option DraftKind → Data → Option ShapeFault
parts_fault None d = Some (at_member member.Kind wanted.Kind)
parts_fault (Some k) d =
    text_fault member.Name d or_else fields_fault k d or_else listed_fault k d

abbrev pub type_fault : Data → Option ShapeFault
type_fault d = object_fault d or_else parts_fault (kind_in d) d

-- of a file that is JSON
abbrev pub file_fault : Data → Option ShapeFault
file_fault d =
    object_fault d or_else text_fault member.Query d or_else text_if_fault member.Mutation d
    or_else list_fault in_type type_fault member.Types d

-- of the file of these bytes; bytes that are no JSON have no shape
abbrev pub fault_in : Bytes → Option ShapeFault
fault_in bytes = data_of bytes >>= file_fault
