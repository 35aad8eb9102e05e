-- What a field of a mutation's root sets in a table of records, and what it answers (GraphQL
-- October 2021, 6.2.2 Mutation).
use Rattle.std.specs.Prelude.{◌++◌, ◌∷◌, [], ℕ, Bool, false, List, Option, Some, None, Result, Ok}
use Rattle.std.specs.Prelude.{Err, codes, slice_get, if◌then◌else◌, option_and_then}
use Rattle.std.specs.Option.{option_map_or}
use Rattle.std.specs.Str.{bytes_eq}
use Rattle.indexmap.specs.Layout.{set_value_at}
use Rattle.graphql_text.specs.Memory.{◌>>=◌}
use Rattle.graphql_names.specs.Names.{Bytes}
use Rattle.graphql_scalars.specs.declared.default_scalar.DefaultScalarValue.{DefaultScalarValue}
use Rattle.graphql_scalars.specs.declared.default_scalar.DefaultScalarValue.TheVariants as scalar
use Rattle.graphql_output_values.specs.Objects.{with_field}
use Rattle.graphql_values.specs.declared.input_value.InputValue.{InputValue, out-InputValue}
use Rattle.graphql_values.specs.declared.input_value.InputValue.TheOpen.{InputValue-F}
use Rattle.graphql_field_results.specs.IntoFieldErrors.{only_reason}
use Rattle.graphql_field_results.specs.declared.field_error.FieldError.{FieldError}
use Rattle.graphql_field_results.specs.declared.resolved.Resolved.TheVariants as resolved
use Rattle.graphql_records.specs.Answers.{is_possible, known_field}
use Rattle.graphql_records.specs.Asked.{Asked, id_asked}
use Rattle.graphql_records.specs.Fields.{TableAnswer}
use Rattle.graphql_records.specs.Tables.{Entries, Table, record_index}
use Rattle.graphql_records.specs.declared.field_value.FieldValue.{FieldValue}
use Rattle.graphql_records.specs.declared.field_value.FieldValue.TheVariants as value
use Rattle.graphql_records.specs.declared.record.Record.{Record}
use Rattle.graphql_records.specs.declared.table_node.TableNode.TheVariants as node
use Rattle.graphql_records.specs.declared.table_type.TableType.{TableType}

-- values by the names of fields
abbrev pub Fields : Type 0
Fields = List (Bytes × FieldValue)

-- why values are not set
abbrev pub Fault : Type 0
Fault = FieldError DefaultScalarValue

-- what an argument sets; none where its own value is a list
abbrev pub set_layer : {A : Type 0} → InputValue-F DefaultScalarValue A → Option FieldValue
set_layer InputValue-F.Null = Some value.Null
set_layer (InputValue-F.Scalar s) = Some (value.Scalar s)
set_layer (InputValue-F.Enum name) = Some (value.Scalar (scalar.String name))
set_layer (InputValue-F.Variable name) = Some value.Null
set_layer (InputValue-F.List items) = None
set_layer (InputValue-F.Object fields) = Some value.Null

abbrev pub set_by : InputValue DefaultScalarValue → Option FieldValue
set_by v = set_layer (out-InputValue DefaultScalarValue v)

-- the two refusals: a record that can't stand at a place of a type, and an argument that may set no
-- field
abbrev pub misfit_record : Bytes → Bytes → Fault
misfit_record id of_type =
    only_reason (codes "Record \"" ++ id ++ codes "\" does not fit type " ++ of_type)

abbrev pub no_scalar_field : Bytes → Bytes → Fault
no_scalar_field object name =
    only_reason (codes "Type " ++ object ++ codes " has no scalar field \"" ++ name ++ codes "\"")

-- where the record stands that is asked for
abbrev pub place_asked : Entries → Asked → Option ℕ
place_asked records given = option_and_then (record_index records) (id_asked given)

-- once the fields of the record at a place are set: its node, and the table
abbrev pub node_set : ℕ → Option Fields → TableAnswer
node_set place (Some fields) = resolved.Node (node.At place)
node_set place None = resolved.Null

-- a record, with these fields in place of its own
abbrev pub record_with : Fields → Record → Record
record_with fields r = record r { fields = fields }

-- the records, the one at a place with these fields, where one stands there
abbrev pub fields_replaced : Entries → ℕ → Fields → Entries
fields_replaced records place fields =
    option_map_or (λ r. set_value_at records place (record_with fields r.1))
    (slice_get records place) records

abbrev pub record_set : Table → ℕ → Option Fields → Table
record_set table place (Some fields) =
    record table { entries = fields_replaced table.entries place fields }
record_set table place None = table

-- `types`: what the table knows of the schema's types
module _ (types : List TableType) where
  -- whether a mutation may set a field of an object type
  abbrev pub is_settable : Bytes → Bytes → Bool
  is_settable object name = option_map_or (λ f. f.is_settable) (known_field types object name) false

  -- the value that an argument may set in it
  abbrev pub settable : Bytes → Bytes → InputValue DefaultScalarValue → Option FieldValue
  settable object name v = if is_settable object name then set_by v else None

  -- an argument but `id` sets the field of its name, or is refused
  abbrev pub set_one : Bytes → Bytes → InputValue DefaultScalarValue → Fields → Result Fields Fault
  set_one object name v fields =
      if bytes_eq name (codes "id") then Ok fields else
      option_map_or (λ x. Ok (with_field fields name x)) (settable object name v)
      (Err (no_scalar_field object name))

  abbrev pub set_at : Bytes → Asked → ℕ → Fields → Result Fields Fault
  set_at object given place fields =
      option_map_or (λ a. set_one object a.0 a.1.item fields) (slice_get given place) (Ok fields)

  -- each argument, in order: the first that is refused is the refusal
  abbrev pub set_all : Bytes → Asked → Fields → Result Fields Fault
  set_all object [] fields = Ok fields
  set_all object (a ∷ given) fields = set_one object a.0 a.1.item fields >>= set_all object given

  -- the fields of a record, which can stand at the type of the mutation's field, once its arguments
  -- have set theirs
  abbrev pub fields_set : Bytes → Bytes → Record → Asked → Result Fields Fault
  fields_set of_type id r given =
      if is_possible types of_type r.type_name then set_all r.type_name given r.fields
      else Err (misfit_record id of_type)

  abbrev pub fields_set_at : Entries → Bytes → Asked → ℕ → Result (Option Fields) Fault
  fields_set_at records of_type given place =
      option_map_or (λ r. fields_set of_type r.0 r.1 given >>= λ fields. Ok (Some fields))
      (slice_get records place) (Ok None)

  -- what a mutation's field answers: null where no record has the id
  abbrev pub root_answer : Table → Bytes → Asked → Result TableAnswer Fault
  root_answer table of_type given =
      option_map_or (λ place. fields_set_at table.entries of_type given place >>= λ fields.
      Ok (node_set place fields))
      (place_asked table.entries given) (Ok resolved.Null)

  -- the table after: the same where nothing is set
  abbrev pub after_setting : Table → ℕ → Result (Option Fields) Fault → Table
  after_setting table place (Ok fields) = record_set table place fields
  after_setting table place (Err e) = table

  abbrev pub table_after : Table → Bytes → Asked → Table
  table_after table of_type given =
      option_map_or
      (λ place. after_setting table place (fields_set_at table.entries of_type given place))
      (place_asked table.entries given) table
