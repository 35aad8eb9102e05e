-- Where in a file of records its faults stand.
use Rattle.std.specs.Prelude.{◌≡◌, ◌&&◌, Bool, true, false, not, List, map, Option, Some, None}
use Rattle.std.specs.Prelude.{is_some, option_map, if◌then◌else◌}
use Rattle.std.specs.List.{find}
use Rattle.serde_json.specs.Data.{Data, null, boolean, number, string, array, object, Items}
use Rattle.serde_json.specs.Data.{no_items, item, Members, no_members, member}
use Rattle.graphql_json.specs.Parts.{◌>>=◌}
use Rattle.graphql_lines.specs.Request.{data_of}
use Rattle.graphql_lines.specs.Variables.{whole_of}
use Rattle.graphql_names.specs.Names.{Bytes, stands_twice}
use Rattle.graphql_records.specs.Tables.{Entries}
use Rattle.graphql_records.specs.declared.field_value.FieldValue.{FieldValue}
use Rattle.graphql_records.specs.declared.record.Record.{Record}
use Rattle.graphql_records.specs.declared.table_type.TableType.{TableType}
use Rattle.graphql_data_files.specs.DataFiles.{has_field, has_fields, ids_repeat, is_of_object_type}
use Rattle.graphql_data_files.specs.Drafts.{Draft, Drafts, file_of, records_of}
use Rattle.graphql_data_files.specs.Links.{field_leads, record_leads}
use Rattle.graphql_data_files.specs.RecordShapes.{fault_in}
use Rattle.graphql_data_files.specs.declared.data_file_error.DataFileError.{DataFileError}
use Rattle.graphql_data_files.specs.declared.data_file_error.DataFileError.TheVariants as fault
use Rattle.graphql_data_files.specs.declared.record_place.RecordPlace.{RecordPlace}
use Rattle.graphql_data_files.specs.declared.record_place.RecordPlace.TheVariants as place

-- each number in a value, in its lists too, is a whole one of 32 bits
abbrev mutual
  pub is_whole : Data → Bool
  is_whole null = true
  is_whole (boolean b) = true
  is_whole (number n) = is_some (whole_of n)
  is_whole (string s) = true
  is_whole (array ds) = are_whole ds
  is_whole (object ms) = true

  pub are_whole : Items → Bool
  are_whole no_items = true
  are_whole (item d ds) = is_whole d && are_whole ds

-- the name of the first member in which a number is none
abbrev pub misnumbered : Members → Option Bytes
misnumbered no_members = None
misnumbered (member k d ms) = if is_whole d then misnumbered ms else Some k

-- a field of the record of an id
abbrev pub field_place : Bytes → Option Bytes → Option RecordPlace
field_place id field = option_map (place.Field id) field

-- the first field with such a number, of the first record that has one
abbrev pub bad_number : List Draft → Option RecordPlace
bad_number drafts = do
  draft ← find (λ d. is_some (misnumbered d.fields)) drafts
  field_place draft.id (misnumbered draft.fields)

-- a record whose id another one has, or none where the ids differ
abbrev pub IsRepeat : List Bytes → Option RecordPlace → Type 0
IsRepeat ids None = (id : Bytes) → stands_twice ids id ≡ false
IsRepeat ids (Some (place.Record id)) = stands_twice ids id ≡ true
IsRepeat ids (Some _) = ⊥

-- by what the table knows of the schema's types
module _ (types : List TableType) where
  -- the first record whose type is no object type
  abbrev pub unknown_type : Entries → Option RecordPlace
  unknown_type records =
      option_map (λ r. place.Record r.0) (find (λ r. not (is_of_object_type types r)) records)

  -- a record's first field that its type lacks
  abbrev pub lacked_field : Record → Option (Bytes × FieldValue)
  lacked_field r = find (λ f. not (has_field types r.type_name f)) r.fields

  -- that field of the first record that has one
  abbrev pub unknown_field : Entries → Option RecordPlace
  unknown_field records = do
    r ← find (λ r. not (has_fields types r)) records
    field_place r.0 (option_map (λ f. f.0) (lacked_field r.1))

  -- a record's first field with a link that leads to none of the records
  abbrev pub stray_field : Entries → Record → Option (Bytes × FieldValue)
  stray_field records r = find (λ f. not (field_leads records types r.type_name f)) r.fields

  -- that field of the first record that has one
  abbrev pub dead_link : Entries → Option RecordPlace
  dead_link records = do
    r ← find (λ r. not (record_leads records types r.1)) records
    field_place r.0 (option_map (λ f. f.0) (stray_field records r.1))

  -- where two records have one id no link is looked for
  abbrev pub bad_link : Entries → Option RecordPlace
  bad_link records = if ids_repeat records then None else dead_link records

  -- where the fault of records stands, if it does
  abbrev pub place_among : DataFileError → Entries → Option RecordPlace
  place_among fault.UnknownType records = unknown_type records
  place_among fault.UnknownField records = unknown_field records
  place_among fault.BadLink records = bad_link records
  place_among _ records = None

  -- and of drafts: where a number is no whole one of 32 bits there are no records
  abbrev pub place_of_drafts : DataFileError → List Draft → Option RecordPlace
  place_of_drafts fault drafts = records_of drafts >>= place_among fault

  -- where a fault stands of a file that has the shape of one
  abbrev pub IsPlaceIn : DataFileError → Drafts → Option RecordPlace → Type 0
  IsPlaceIn fault.BadNumber file found = found ≡ bad_number file.records
  IsPlaceIn fault.DuplicateId file found = IsRepeat (map (λ d. d.id) file.records) found
  IsPlaceIn fault.BadRoot file found = found ≡ Some (place.Root file.root)
  IsPlaceIn fault file found = found ≡ place_of_drafts fault file.records

  -- and of one that may have none: its faults stand at no record
  abbrev pub IsPlaceOf : DataFileError → Option Drafts → Option RecordPlace → Type 0
  IsPlaceOf fault None found = found ≡ None
  IsPlaceOf fault (Some file) found = IsPlaceIn fault file found

  -- and of the file of these bytes
  abbrev pub IsPlaceInBytes : DataFileError → Bytes → Option RecordPlace → Type 0
  IsPlaceInBytes fault bytes found = IsPlaceOf fault (data_of bytes >>= file_of) found

  -- where a fault stands of the file of these bytes, that of its shape too
  abbrev pub IsPlace : DataFileError → Bytes → Option RecordPlace → Type 0
  IsPlace fault.BadShape bytes found = found ≡ option_map place.Shape (fault_in bytes)
  IsPlace fault bytes found = IsPlaceInBytes fault bytes found
