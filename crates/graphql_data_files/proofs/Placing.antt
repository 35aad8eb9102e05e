-- Where faults stand among records, as it is found.
use Rattle.std.proofs.Common.{◌≡◌, Bool, true, false, cond, List, [], ◌∷◌, map, Option, Some, None, Result, Ok, Err, IfOk, option_map, is_some, ok_or, is_ok, true≢false, refl, sym, ap, subst, ◌∙◌}
use Rattle.std.specs.List.{find}
use Rattle.std.specs.Map.{keys_of}
use Rattle.std.specs.Option.{unwrap_or}
use Rattle.std.specs.declared.alloc.AllocError.{AllocError}
use Rattle.serde_json.specs.Data.{Data}
use Rattle.graphql_json.specs.Parts.{◌>>=◌}
use Rattle.graphql_lines.specs.Request.{data_of}
use Rattle.graphql_text.specs.Memory.{Gives}
use Rattle.graphql_names.specs.Names.{Bytes}
use Rattle.graphql_records.specs.Tables.{Entries, IsTableOf, Table}
use Rattle.graphql_records.specs.declared.table_type.TableType.{TableType}
use Rattle.graphql_data_files.specs.DataFiles.{ids_repeat}
use Rattle.graphql_data_files.specs.Drafts.{Drafts, file_of}
use Rattle.graphql_data_files.specs.LentDrafts.{draft_told}
use Rattle.graphql_data_files.specs.RecordPlaces.{IsPlace, IsPlaceIn, IsPlaceOf, bad_link, dead_link, field_place, place_of_drafts}
use Rattle.graphql_data_files.specs.declared.data_file_error.DataFileError.{DataFileError}
use Rattle.graphql_data_files.specs.declared.data_file_error.DataFileError.TheVariants as fault
use Rattle.graphql_data_files.specs.declared.drafts.Draft.{Draft as LentDraft}
use Rattle.graphql_data_files.specs.RecordShapes.{fault_in}
use Rattle.graphql_data_files.specs.declared.record_place.RecordPlace.{RecordPlace}
use Rattle.graphql_data_files.specs.declared.record_place.RecordPlace.TheVariants as place
use Rattle.graphql_data_files.proofs.Judging.{ids_differ, ids_repeat_at}

-- the first of what items are made to
pub find_map : {A B : Type 0} (f : A → B) (test : B → Bool) (xs : List A) → find test (map f xs) ≡ option_map f (find (λ x. test (f x)) xs)
find_map f test [] = refl
find_map {A} f test (x ∷ xs) = step (test (f x)) (find_map f test xs)
  where
    step : (b : Bool) → find test (map f xs) ≡ option_map f (find (λ x. test (f x)) xs) → cond b (Some (f x)) (find test (map f xs)) ≡ option_map f (cond b (Some x) (find (λ x. test (f x)) xs))
    step true rest = refl
    step false rest = rest

-- of the first item that a test finds, a field of its id
module _ {R : Type 0} (id_of : R → Bytes) (field_in : R → Option Bytes) (test : R → Bool) (records : List R) where
  abbrev pub placed_by : Option RecordPlace
  placed_by = find test records >>= λ r. field_place (id_of r) (field_in r)

  pub placed : (result : Result (Option RecordPlace) AllocError) (r : R) (id : Bytes) (field : Option Bytes) → find test records ≡ Some r → id ≡ id_of r → field ≡ field_in r
      → Gives result (field_place id field) → Gives result placed_by
  placed result r id field found same named given =
      subst (Gives result) (ap (λ i. field_place i field) same ∙ ap (field_place (id_of r)) named ∙ sym (ap (λ o. o >>= λ r. field_place (id_of r) (field_in r)) found)) given

  pub placed_nowhere : find test records ≡ None → None ≡ placed_by
  placed_nowhere found = sym (ap (λ o. o >>= λ r. field_place (id_of r) (field_in r)) found)

-- the ids of drafts that are lent
pub ids_told : (drafts : List LentDraft) → map (λ d. d.id) (map draft_told drafts) ≡ map (λ d. d.id) drafts
ids_told [] = refl
ids_told (draft ∷ drafts) = ap (λ ids. draft.id ∷ ids) (ids_told drafts)

-- links of records of which a table is made, or of which two have one id
module _ (types : List TableType) (records copies : Entries) (same : copies ≡ records) where
  pub link_placed : (table : Table) (result : Result (Option RecordPlace) AllocError) → IsTableOf copies (Some table)
      → (table.entries ≡ records → Gives result (dead_link types records)) → Gives result (bad_link types records)
  link_placed table result (is, once) given =
      let differ : ids_repeat records ≡ false = ap ids_repeat (sym same) ∙ ids_differ (keys_of copies) once in
      subst (Gives result) (sym (ap (λ b. cond b None (dead_link types records)) differ)) (given (ap (λ (t : Table). t.entries) is ∙ same))

  pub link_nowhere : IsTableOf copies None → None ≡ bad_link types records
  link_nowhere (id, twice) =
      let repeat : ids_repeat records ≡ true = ap ids_repeat (sym same) ∙ ids_repeat_at id (keys_of copies) twice in
      sym (ap (λ b. cond b None (dead_link types records)) repeat)

-- faults that stand at records by the types
pub rest_placed : (types : List TableType) (e : DataFileError) (file : Drafts) (found : Option RecordPlace) → (e ≡ fault.BadNumber → ⊥) → (e ≡ fault.DuplicateId → ⊥) → (e ≡ fault.BadRoot → ⊥)
    → found ≡ place_of_drafts types e file.records → IsPlaceIn types e file found
rest_placed types fault.BadNumber file found a b c is = absurd (a refl)
rest_placed types fault.DuplicateId file found a b c is = absurd (b refl)
rest_placed types fault.BadRoot file found a b c is = absurd (c refl)
rest_placed types fault.NotJson file found a b c is = is
rest_placed types fault.BadShape file found a b c is = is
rest_placed types fault.UnknownType file found a b c is = is
rest_placed types fault.UnknownField file found a b c is = is
rest_placed types fault.BadLink file found a b c is = is
rest_placed types fault.Memory file found a b c is = is

pub some_same : (one other : Entries) → Some one ≡ Some other → one ≡ other
some_same one other same = ap (λ o. unwrap_or o one) same

pub some_other : (records : Entries) → None ≡ Some records → ⊥
some_other records same = true≢false (sym (ap is_some same))

-- bytes that are JSON, and bytes that are none
pub parsed : (o : Option Data) (json : Data) → ok_or o fault.NotJson ≡ Ok json → o ≡ Some json
parsed None json told = absurd (true≢false (sym (ap is_ok told)))
parsed (Some d) json told = ap (λ r. some_of r) told
  where
    some_of : Result Data DataFileError → Option Data
    some_of (Ok x) = Some x
    some_of (Err e) = None

pub not_parsed : (types : List TableType) (e : DataFileError) (o : Option Data) (read : DataFileError) → ok_or o fault.NotJson ≡ Err read → IsPlaceOf types e (o >>= file_of) None
not_parsed types e None read told = refl
not_parsed types e (Some d) read told = absurd (true≢false (ap is_ok told))

-- the member that has not its shape
pub shape_placed : (types : List TableType) (e : DataFileError) (bytes : Bytes) (result : Result (Option RecordPlace) AllocError) → e ≡ fault.BadShape → Gives result (option_map place.Shape (fault_in bytes))
    → IfOk result (IsPlace types e bytes)
shape_placed types e bytes result is given = subst (λ f. IfOk result (IsPlace types f bytes)) (sym is) given

-- the place of another fault
placed_otherwise : (types : List TableType) (e : DataFileError) (bytes : Bytes) (found : Option RecordPlace) → (e ≡ fault.BadShape → ⊥) → IsPlaceOf types e (data_of bytes >>= file_of) found
    → IsPlace types e bytes found
placed_otherwise types fault.BadShape bytes found other is = absurd (other refl)
placed_otherwise types fault.NotJson bytes found other is = is
placed_otherwise types fault.BadNumber bytes found other is = is
placed_otherwise types fault.DuplicateId bytes found other is = is
placed_otherwise types fault.UnknownType bytes found other is = is
placed_otherwise types fault.UnknownField bytes found other is = is
placed_otherwise types fault.BadLink bytes found other is = is
placed_otherwise types fault.BadRoot bytes found other is = is
placed_otherwise types fault.Memory bytes found other is = is

pub other_place : (types : List TableType) (e : DataFileError) (bytes : Bytes) (result : Result (Option RecordPlace) AllocError) → (e ≡ fault.BadShape → ⊥)
    → IfOk result (IsPlaceOf types e (data_of bytes >>= file_of)) → IfOk result (IsPlace types e bytes)
other_place types e bytes (Ok found) other is = placed_otherwise types e bytes found other is
other_place types e bytes (Err f) other is = is
