-- Where a file's first fault stands at a member, at a record or at the root's id, a place is found.
use Rattle.std.proofs.Common.{◌≡◌, ℕ, Bool, true, false, not, if◌then◌else◌, List, map, Option, Some, None, option_map, option_and_then, is_some, Result, Ok, Err, ok_or, is_ok, find, true≢false, refl, sym, ap, subst, ◌∙◌}
use Rattle.std.specs.List.{list_all, list_any}
use Rattle.std.specs.Map.{keys_of}
use Rattle.serde_json.specs.Data.{Data}
use Rattle.graphql_text.specs.Memory.{◌>>=◌}
use Rattle.graphql_lines.specs.Request.{data_of}
use Rattle.graphql_names.specs.Names.{Bytes, stands_twice}
use Rattle.graphql_records.specs.Tables.{Entries, Table}
use Rattle.graphql_records.specs.declared.record.Record.{Record}
use Rattle.graphql_records.specs.declared.table_type.TableType.{TableType}
use Rattle.graphql_data_files.specs.DataFiles.{described, drafted, has_field, has_fields, ids_repeat, is_of_object_type, judged, linked, rooted}
use Rattle.graphql_data_files.specs.Drafts.{Drafts, file_of, records_of}
use Rattle.graphql_data_files.specs.Laws.{ToldFaultsHavePlaces}
use Rattle.graphql_data_files.specs.Links.{all_lead, field_leads, query_root}
use Rattle.graphql_data_files.specs.RecordPlaces.{IsPlaceIn, IsPlaceOf, IsRepeat, dead_link, place_among}
use Rattle.graphql_data_files.specs.RecordShapes.{fault_in, file_fault}
use Rattle.graphql_data_files.specs.declared.data_file_error.DataFileError.{DataFileError}
use Rattle.graphql_data_files.specs.declared.data_file_error.DataFileError.TheVariants as fault
use Rattle.graphql_data_files.specs.declared.record_place.RecordPlace.{RecordPlace}
use Rattle.graphql_data_files.specs.declared.record_place.RecordPlace.TheVariants as place
use Rattle.graphql_data_files.proofs.FaultySteps.{FirstFails, are_shaped, field_found, file_shaped, first_fails, ids_kept, number_found, some_mapped}
use Rattle.graphql_data_files.specs.declared.shape_place.ShapePlace.{ShapePlace}
use Rattle.graphql_data_files.proofs.Judging.{ids_differ}
use Rattle.graphql_data_files.proofs.ShapeFaults.{shapeless}

-- a fault of a record, or of the root's id
abbrev StandsAtRecord : DataFileError → Type 0
StandsAtRecord fault.NotJson = ⊥
StandsAtRecord fault.BadShape = ⊥
StandsAtRecord fault.Memory = ⊥
StandsAtRecord _ = Unit {0}

abbrev refused : DataFileError → Result Table DataFileError
refused e = Err e

same_error : (a b : DataFileError) → refused a ≡ refused b → a ≡ b
same_error a b same = ap error_of same
  where
    error_of : Result Table DataFileError → DataFileError
    error_of (Ok x) = a
    error_of (Err e) = e

-- an id that two records have is found
repeat_found : (ids : List Bytes) → list_any (stands_twice ids) ids ≡ true → (found : Option RecordPlace) → IsRepeat ids found → is_some found ≡ true
repeat_found ids repeat None once = absurd (true≢false (sym repeat ∙ ids_differ ids once))
repeat_found ids repeat (Some p) twice = refl

module _ (types : List TableType) (query : Bytes) where
  abbrev Placed : Drafts → DataFileError → Type 0
  Placed file e = (found : Option RecordPlace) → IsPlaceIn types e file found → is_some found ≡ true

  placed_as : (file : Drafts) (e told : DataFileError) → refused e ≡ refused told → Placed file e → Placed file told
  placed_as file e told same placed = subst (Placed file) (same_error e told same) placed

  module _ (file : Drafts) (records : Entries) (told : records_of file.records ≡ Some records) where
    abbrev typed : Bool
    typed = list_all (is_of_object_type types) records

    abbrev known : Bool
    known = list_all (has_fields types) records

    abbrev after : Bool → Bool → Bool → Result Table DataFileError
    after repeat typed known =
        if repeat then Err fault.DuplicateId else
        if not typed then Err fault.UnknownType else
        if not known then Err fault.UnknownField else
        linked types query file.root records

    -- what is found of drafts is found of their records
    of_records : (e : DataFileError) (found : Option RecordPlace) → found ≡ option_and_then (place_among types e) (records_of file.records) → is_some found ≡ is_some (place_among types e records)
    of_records e found is = ap is_some is ∙ ap (λ o. is_some (option_and_then (place_among types e) o)) told

    repeat_placed : ids_repeat records ≡ true → Placed file fault.DuplicateId
    repeat_placed repeat =
        repeat_found (map (λ d. d.id) file.records) (sym (ap (λ ids. list_any (stands_twice ids) ids) (ids_kept file.records records told)) ∙ repeat)

    untyped_found : FirstFails (is_of_object_type types) records → is_some (option_map (λ (r : Bytes × Record). place.Record r.0) (find (λ r. not (is_of_object_type types r)) records)) ≡ true
    untyped_found (r, found, fails) = ap (λ o. is_some (option_map (λ (r : Bytes × Record). place.Record r.0) o)) found

    untyped_placed : typed ≡ false → Placed file fault.UnknownType
    untyped_placed fail found is = of_records fault.UnknownType found is ∙ untyped_found (first_fails (is_of_object_type types) records fail)

    unknown_placed : known ≡ false → Placed file fault.UnknownField
    unknown_placed fail found is =
        of_records fault.UnknownField found is ∙ field_found (λ r. r.0) (λ f. f.0) (λ r. r.1.fields) (λ r. has_field types r.1.type_name) records fail

    stray_placed : ids_repeat records ≡ false → all_lead records types ≡ false → Placed file fault.BadLink
    stray_placed differ fail found is =
        of_records fault.BadLink found is ∙ ap (λ b. is_some (if b then None else dead_link types records)) differ
        ∙ field_found (λ r. r.0) (λ f. f.0) (λ r. r.1.fields) (λ r. field_leads records types r.1.type_name) records fail

    root_placed : Placed file fault.BadRoot
    root_placed found is = ap is_some is

    abbrev table_from : ℕ → Table
    table_from n = record { entries = records; root = n }

    module _ (e : DataFileError) where
      by_root : (o : Option ℕ) → (ok_or o fault.BadRoot >>= λ n. Ok (table_from n)) ≡ Err e → Placed file e
      by_root None given = placed_as file fault.BadRoot e given root_placed
      by_root (Some n) given = absurd (true≢false (ap is_ok given))

      by_links : ids_repeat records ≡ false → (b : Bool) → all_lead records types ≡ b → (if b then rooted query file.root records else Err fault.BadLink) ≡ Err e → Placed file e
      by_links differ true led given = by_root (query_root records query file.root) given
      by_links differ false led given = placed_as file fault.BadLink e given (stray_placed differ led)

      by_fields : ids_repeat records ≡ false → (b : Bool) → known ≡ b → after false true b ≡ Err e → Placed file e
      by_fields differ true is given = by_links differ (all_lead records types) refl given
      by_fields differ false is given = placed_as file fault.UnknownField e given (unknown_placed is)

      by_types : ids_repeat records ≡ false → (b : Bool) → typed ≡ b → after false b known ≡ Err e → Placed file e
      by_types differ true is given = by_fields differ known refl given
      by_types differ false is given = placed_as file fault.UnknownType e given (untyped_placed is)

      by_ids : (b : Bool) → ids_repeat records ≡ b → after b typed known ≡ Err e → Placed file e
      by_ids true is given = placed_as file fault.DuplicateId e given (repeat_placed is)
      by_ids false is given = by_types is typed refl given

      pub judged_placed : judged types query file.root records ≡ Err e → Placed file e
      judged_placed given = by_ids (ids_repeat records) refl given

  in_file : (file : Drafts) → are_shaped file.records ≡ true → (o : Option Entries) → records_of file.records ≡ o → (e : DataFileError)
      → (ok_or o fault.BadNumber >>= judged types query file.root) ≡ Err e → Placed file e
  in_file file shaped None none e given = placed_as file fault.BadNumber e given (λ found is. ap is_some is ∙ number_found file.records shaped none)
  in_file file shaped (Some records) told e given = judged_placed file records told e given

  in_json : (o : Option Drafts) → ((file : Drafts) → o ≡ Some file → are_shaped file.records ≡ true) → (e : DataFileError) → StandsAtRecord e
      → (ok_or o fault.BadShape >>= drafted types query) ≡ Err e → (found : Option RecordPlace) → IsPlaceOf types e o found → is_some found ≡ true
  in_json None shaped e stands given found is = absurd (subst StandsAtRecord (sym (same_error fault.BadShape e given)) stands)
  in_json (Some file) shaped e stands given found is = in_file file (shaped file refl) (records_of file.records) refl e given found is

  in_bytes : (o : Option Data) (e : DataFileError) → StandsAtRecord e → (ok_or o fault.NotJson >>= described types query) ≡ Err e
      → (found : Option RecordPlace) → IsPlaceOf types e (option_and_then file_of o) found → is_some found ≡ true
  in_bytes None e stands given found is = absurd (subst StandsAtRecord (sym (same_error fault.NotJson e given)) stands)
  in_bytes (Some d) e stands given found is = in_json (file_of d) (file_shaped d) e stands given found is

  -- nothing that has been drafted is told to have no shape
  never_shape : (o : Option Entries) → is_some (option_and_then (place_among types fault.BadShape) o) ≡ true → ⊥
  never_shape None some = true≢false (sym some)
  never_shape (Some records) some = true≢false (sym some)

  not_drafted : (o : Option Drafts) → ((file : Drafts) → o ≡ Some file → are_shaped file.records ≡ true) → (ok_or o fault.BadShape >>= drafted types query) ≡ Err fault.BadShape → o ≡ None
  not_drafted None shaped given = refl
  not_drafted (Some file) shaped given =
      let found = option_and_then (place_among types fault.BadShape) (records_of file.records) in
      absurd (never_shape (records_of file.records) (in_file file (shaped file refl) (records_of file.records) refl fault.BadShape given found refl))

  shape_in_bytes : (o : Option Data) → (ok_or o fault.NotJson >>= described types query) ≡ Err fault.BadShape → is_some (option_and_then file_fault o) ≡ true
  shape_in_bytes None given = absurd (let e = same_error fault.NotJson fault.BadShape given in cc)
  shape_in_bytes (Some d) given = shapeless d (not_drafted (file_of d) (file_shaped d) given)

-- a member that is found is a place
found_placed : (at : Option ShapePlace) → is_some at ≡ true → (found : Option RecordPlace) → found ≡ option_map place.Shape at → is_some found ≡ true
found_placed (Some p) some found is = ap is_some is
found_placed None some found is = absurd (true≢false (sym some))

pub told_faults_have_places : ToldFaultsHavePlaces
told_faults_have_places types query bytes fault.BadShape found has given is = found_placed (fault_in bytes) (shape_in_bytes types query (data_of bytes) given) found is
told_faults_have_places types query bytes fault.BadNumber found has given is = in_bytes types query (data_of bytes) fault.BadNumber has given found is
told_faults_have_places types query bytes fault.DuplicateId found has given is = in_bytes types query (data_of bytes) fault.DuplicateId has given found is
told_faults_have_places types query bytes fault.UnknownType found has given is = in_bytes types query (data_of bytes) fault.UnknownType has given found is
told_faults_have_places types query bytes fault.UnknownField found has given is = in_bytes types query (data_of bytes) fault.UnknownField has given found is
told_faults_have_places types query bytes fault.BadLink found has given is = in_bytes types query (data_of bytes) fault.BadLink has given found is
told_faults_have_places types query bytes fault.BadRoot found has given is = in_bytes types query (data_of bytes) fault.BadRoot has given found is
told_faults_have_places types query bytes fault.NotJson found has given is = absurd has
told_faults_have_places types query bytes fault.Memory found has given is = absurd has
