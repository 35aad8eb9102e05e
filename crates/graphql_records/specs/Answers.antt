-- What a table of records answers for a field (GraphQL October 2021, 6.4.2 Value Resolution).
use Rattle.std.specs.Prelude.{ℕ, Bool, true, false, List, [], Option, slice_get, codes}
use Rattle.std.specs.Prelude.{if◌then◌else◌, option_and_then}
use Rattle.std.specs.Option.{option_map_or}
use Rattle.std.specs.Str.{bytes_eq}
use Rattle.graphql_names.specs.Names.{Bytes, is_one_of, named}
use Rattle.graphql_scalars.specs.declared.default_scalar.DefaultScalarValue.TheVariants as scalar
use Rattle.graphql_output_values.specs.Objects.{field_value}
use Rattle.graphql_field_results.specs.declared.resolved.Resolved.TheVariants as resolved
use Rattle.graphql_records.specs.Asked.{Asked, id_asked, first_asked}
use Rattle.graphql_records.specs.Fields.{TableAnswer, at_leaf, at_links, cut_to, picked}
use Rattle.graphql_records.specs.Tables.{Entries, Table}
use Rattle.graphql_records.specs.declared.field_value.FieldValue.{FieldValue}
use Rattle.graphql_records.specs.declared.field_value.FieldValue.TheVariants as value
use Rattle.graphql_records.specs.declared.record.Record.{Record}
use Rattle.graphql_records.specs.declared.table_node.TableNode.{TableNode}
use Rattle.graphql_records.specs.declared.table_node.TableNode.TheVariants as node
use Rattle.graphql_records.specs.declared.table_type.TableField.{TableField}
use Rattle.graphql_records.specs.declared.table_type.TableType.{TableType}

-- a missing `id` is the record's id, another missing one is null
abbrev pub missing : Bytes → Bytes → FieldValue
missing id field =
    if bytes_eq field (codes "id") then value.Scalar (scalar.String id) else value.Null

-- the value of a field of the record of an id
abbrev pub value_in_record : Bytes → Record → Bytes → FieldValue
value_in_record id r field = option_map_or (λ v. v) (field_value r.fields field) (missing id field)

-- at a composite type an `id` picks a link
abbrev pub links_asked : Entries → Option Bytes → FieldValue → TableAnswer
links_asked records id v = option_map_or (λ id. picked records id v) id (at_links records v)

abbrev pub value_answer : Entries → Bool → Asked → FieldValue → TableAnswer
value_answer records true given v = at_leaf v
value_answer records false given v = links_asked records (id_asked given) v

-- then `first` cuts
abbrev pub field_answer : Entries → TableField → Asked → FieldValue → TableAnswer
field_answer records f given v = cut_to (first_asked given) (value_answer records f.is_leaf given v)

-- the record of a node
abbrev pub place_at : ℕ → TableNode → ℕ
place_at root node.Root = root
place_at root (node.At place) = place

abbrev pub record_at : Table → TableNode → Option (Bytes × Record)
record_at table n = slice_get table.entries (place_at table.root n)

-- the name of a node's object type
abbrev pub type_of : Table → TableNode → Bytes
type_of table n = option_map_or (λ r. r.1.type_name) (record_at table n) []

-- `types`: what the table knows of the schema's types
module _ (types : List TableType) where
  abbrev pub known_field : Bytes → Bytes → Option TableField
  known_field of_type field =
      option_and_then (λ t. named (λ f. f.name) t.fields field) (named (λ t. t.name) types of_type)

  -- whether an object of the one type can stand at a place of the other
  abbrev pub is_possible : Bytes → Bytes → Bool
  is_possible at object =
      option_map_or (λ t. is_one_of t.possible object) (named (λ t. t.name) types at) false

  -- a field of the record of an id; one that the table does not know is null
  abbrev pub record_answer : Entries → Bytes → Record → Bytes → Asked → TableAnswer
  record_answer records id r field given =
      option_map_or (λ f. field_answer records f given (value_in_record id r field))
      (known_field r.type_name field) resolved.Null

  -- a field of a node; null where it has no record
  abbrev pub answer : Table → TableNode → Bytes → Asked → TableAnswer
  answer table n field given =
      option_map_or (λ r. record_answer table.entries r.0 r.1 field given) (record_at table n)
      resolved.Null
