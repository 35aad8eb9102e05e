-- What a file of records says, before it is judged by the types of a schema.
use Rattle.std.specs.Prelude.{List, [], ◌∷◌, Option, Some, None, codes, if◌then◌else◌}
use Rattle.serde_json.specs.Data.{Data, Members}
use Rattle.serde_json.specs.Find.{get, as_object}
use Rattle.graphql_json.specs.Parts.{◌>>=◌, list_at, text_at}
use Rattle.graphql_names.specs.Names.{Bytes}
use Rattle.graphql_records.specs.Tables.{Entries}
use Rattle.graphql_records.specs.declared.record.Record.{Record}
use Rattle.graphql_data_files.specs.FileValues.{fields_have_shape, file_fields}

-- a record: its id, the name of its type, its fields as they stand in the file
pub record Draft : Type 0 where
  pub id : Bytes
  pub type_name : Bytes
  pub fields : Members

-- a file: the id of the record from which queries start, and the records
pub record Drafts : Type 0 where
  pub root : Bytes
  pub records : List Draft

-- the object `fields` of values
abbrev pub fields_member : Data → Option Members
fields_member d = do
  value ← get (codes "fields") d
  members ← as_object value
  if fields_have_shape members then Some members else None

-- a record: the texts `id` and `type`, and its fields
abbrev pub draft_of : Data → Option Draft
draft_of d = do
  id ← text_at (codes "id") d
  type_name ← text_at (codes "type") d
  fields ← fields_member d
  Some (record { id = id; type_name = type_name; fields = fields })

-- the text `query` in the object `roots`
abbrev pub root_in : Data → Option Bytes
root_in d = do
  roots ← get (codes "roots") d
  text_at (codes "query") roots

abbrev pub drafts_in : Data → Option (List Draft)
drafts_in = list_at draft_of (codes "records")

-- a file: the root's id, and the list `records`
abbrev pub file_of : Data → Option Drafts
file_of d = do
  root ← root_in d
  records ← drafts_in d
  Some (record { root = root; records = records })

-- the record of a draft, with its id; none where a number in it is no whole one of 32 bits
abbrev pub record_of : Draft → Option (Bytes × Record)
record_of draft = do
  fields ← file_fields draft.fields
  Some (draft.id, record { type_name = draft.type_name; fields = fields })

-- the records of a file, or nothing where one is none
abbrev pub records_of : List Draft → Option Entries
records_of [] = Some []
records_of (draft ∷ drafts) = do
  r ← record_of draft
  rs ← records_of drafts
  Some (r ∷ rs)
