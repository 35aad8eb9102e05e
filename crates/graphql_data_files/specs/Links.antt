-- Whether links lead to records: the texts at fields of composite types, and the id of the root.
use Rattle.std.specs.Prelude.{ℕ, Bool, true, ◌||◌, List, Option, Some, None, is_some, slice_get}
use Rattle.std.specs.Prelude.{if◌then◌else◌}
use Rattle.std.specs.List.{list_all}
use Rattle.std.specs.Option.{option_map_or}
use Rattle.std.specs.Str.{bytes_eq}
use Rattle.graphql_json.specs.Parts.{◌>>=◌}
use Rattle.graphql_names.specs.Names.{Bytes, passes}
use Rattle.graphql_scalars.specs.declared.default_scalar.DefaultScalarValue.{DefaultScalarValue}
use Rattle.graphql_scalars.specs.declared.default_scalar.DefaultScalarValue.TheVariants as scalar
use Rattle.graphql_records.specs.Answers.{known_field}
use Rattle.graphql_records.specs.Tables.{Entries, record_index}
use Rattle.graphql_records.specs.declared.field_value.FieldValue.{FieldValue, fold-FieldValue}
use Rattle.graphql_records.specs.declared.field_value.FieldValue.TheOpen.{FieldValue-F}
use Rattle.graphql_records.specs.declared.record.Record.{Record}
use Rattle.graphql_records.specs.declared.table_type.TableType.{TableType}

module _ (records : Entries) where
  -- a text leads to the record of its id
  abbrev pub scalar_leads : DefaultScalarValue → Bool
  scalar_leads (scalar.String id) = is_some (record_index records id)
  scalar_leads (scalar.Int z) = true
  scalar_leads (scalar.Boolean b) = true

  -- at each form of a value, by what is told of its items
  abbrev pub leads_here : FieldValue-F Bool → Bool
  leads_here FieldValue-F.Null = true
  leads_here (FieldValue-F.Scalar s) = scalar_leads s
  leads_here (FieldValue-F.List told) = list_all (λ b. b) told

  -- each text in a value or its lists leads to a record
  abbrev pub value_leads : FieldValue → Bool
  value_leads = fold-FieldValue Bool leads_here

  -- the record at a place is of the query type
  abbrev pub is_query : Bytes → ℕ → Bool
  is_query query place = passes (λ r. bytes_eq query r.1.type_name) (slice_get records place)

  -- the place of the record of an id, if it is of the query type
  abbrev pub query_root : Bytes → Bytes → Option ℕ
  query_root query id = do
    place ← record_index records id
    if is_query query place then Some place else None

  -- `types`: what the table knows of the schema's types
  module _ (types : List TableType) where
    -- each link in a field's value leads to a record; at a leaf type there are none
    abbrev pub field_leads : Bytes → Bytes × FieldValue → Bool
    field_leads object f =
        option_map_or (λ known. known.is_leaf || value_leads f.1) (known_field types object f.0)
        true

    -- each link of a record leads to a record
    abbrev pub record_leads : Record → Bool
    record_leads r = list_all (field_leads r.type_name) r.fields

    -- the record at a place, if there is one, and each record
    abbrev pub leads_at : ℕ → Bool
    leads_at place = option_map_or (λ r. record_leads r.1) (slice_get records place) true

    abbrev pub all_lead : Bool
    all_lead = list_all (λ r. record_leads r.1) records
