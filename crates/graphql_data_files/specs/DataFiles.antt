-- The records that a file describes, or the first of its faults.
use Rattle.std.specs.Prelude.{Bool, not, List, Result, Ok, Err, is_some, ok_or, if◌then◌else◌}
use Rattle.std.specs.List.{list_all, list_any}
use Rattle.std.specs.Map.{keys_of}
use Rattle.serde_json.specs.Data.{Data}
use Rattle.graphql_text.specs.Memory.{◌>>=◌}
use Rattle.graphql_lines.specs.Request.{data_of}
use Rattle.graphql_names.specs.Names.{Bytes, stands_twice}
use Rattle.graphql_records.specs.Answers.{is_possible, known_field}
use Rattle.graphql_records.specs.Tables.{Entries, Table}
use Rattle.graphql_records.specs.declared.field_value.FieldValue.{FieldValue}
use Rattle.graphql_records.specs.declared.record.Record.{Record}
use Rattle.graphql_records.specs.declared.table_type.TableType.{TableType}
use Rattle.graphql_data_files.specs.Drafts.{Drafts, file_of, records_of}
use Rattle.graphql_data_files.specs.Links.{all_lead, query_root}
use Rattle.graphql_data_files.specs.declared.data_file_error.DataFileError.{DataFileError}
use Rattle.graphql_data_files.specs.declared.data_file_error.DataFileError.TheVariants.{
  NotJson,
  BadShape,
  BadNumber,
  DuplicateId,
  UnknownType,
  UnknownField,
  BadLink,
  BadRoot,
}

-- two records have one id
abbrev pub ids_repeat : Entries → Bool
ids_repeat records = list_any (stands_twice (keys_of records)) (keys_of records)

-- `query`: the name of the query root
module _ (query : Bytes) where
  -- the table of records, queries starting from the record of an id
  abbrev pub rooted : Bytes → Entries → Result Table DataFileError
  rooted id records = do
    place ← ok_or (query_root records query id) BadRoot
    Ok (record { entries = records; root = place })

-- `types`: what the table knows of the schema's types
module _ (types : List TableType) where
  -- a record is of an object type: these types are possible at themselves
  abbrev pub is_of_object_type : Bytes × Record → Bool
  is_of_object_type r = is_possible types r.1.type_name r.1.type_name

  abbrev pub has_field : Bytes → Bytes × FieldValue → Bool
  has_field object f = is_some (known_field types object f.0)

  -- a record's type has each of the record's fields
  abbrev pub has_fields : Bytes × Record → Bool
  has_fields r = list_all (has_field r.1.type_name) r.1.fields

  module _ (query : Bytes) where
    -- that table, where each link leads to a record
    abbrev pub linked : Bytes → Entries → Result Table DataFileError
    linked root records =
        if all_lead records types then rooted query root records else Err BadLink

    -- the table of records, or the first of their faults
    abbrev pub judged : Bytes → Entries → Result Table DataFileError
    judged root records =
        if ids_repeat records then Err DuplicateId else
        if not (list_all is_of_object_type records) then Err UnknownType else
        if not (list_all has_fields records) then Err UnknownField else
        linked root records

    abbrev pub drafted : Drafts → Result Table DataFileError
    drafted file = do
      records ← ok_or (records_of file.records) BadNumber
      judged file.root records

    abbrev pub described : Data → Result Table DataFileError
    described d = do
      file ← ok_or (file_of d) BadShape
      drafted file

    -- the records that the bytes of a file describe, or the first of its faults
    abbrev pub read_of : Bytes → Result Table DataFileError
    read_of bytes = do
      d ← ok_or (data_of bytes) NotJson
      described d
