-- Of records that do not all pass a test, and of drafts in which a number is no whole one of 32 bits, the place is found.
use Rattle.std.proofs.Common.{◌≡◌, ◌&&◌, Bool, true, false, not, cond, if◌then◌else◌, List, [], ◌∷◌, map, Option, Some, None, option_map, is_some, find, codes, true≢false, refl, sym, ap, ◌∙◌}
use Rattle.std.specs.List.{list_all}
use Rattle.std.specs.Map.{keys_of}
use Rattle.std.proofs.lemmas.Option.{none-some, same_Some}
use Rattle.serde_json.specs.Data.{Data, null, boolean, number, string, array, object, Items, no_items, item, Members, no_members, member}
use Rattle.serde_json.specs.Find.{as_array, as_object, get}
use Rattle.graphql_json.specs.Parts.{◌>>=◌, each_read, list_read, text_at}
use Rattle.graphql_lines.specs.Variables.{whole_of}
use Rattle.graphql_names.specs.Names.{Bytes}
use Rattle.graphql_scalars.specs.declared.default_scalar.DefaultScalarValue.TheVariants as scalar
use Rattle.graphql_records.specs.Settings.{Fields}
use Rattle.graphql_records.specs.Tables.{Entries}
use Rattle.graphql_records.specs.declared.field_value.FieldValue.{FieldValue}
use Rattle.graphql_records.specs.declared.field_value.FieldValue.TheVariants as value
use Rattle.graphql_records.specs.declared.record.Record.{Record}
use Rattle.graphql_data_files.specs.Drafts.{Draft, Drafts, draft_of, drafts_in, fields_member, file_of, records_of, root_in}
use Rattle.graphql_data_files.specs.FileValues.{fields_have_shape, file_fields, has_shape, have_shape, file_value, file_values}
use Rattle.graphql_data_files.specs.RecordPlaces.{are_whole, bad_number, field_place, is_whole, misnumbered}
use Rattle.graphql_data_files.specs.declared.record_place.RecordPlace.{RecordPlace}

-- ---- the first item that fails a test

module _ {A : Type 0} (test : A → Bool) where
  abbrev pub FirstFails : List A → Type 0
  FirstFails xs = (x : A) × (find (λ y. not (test y)) xs ≡ Some x) × (test x ≡ false)

  later : (x : A) (xs : List A) → test x ≡ true → FirstFails xs → FirstFails (x ∷ xs)
  later x xs passes (y, found, fails) = (y, ap (λ b. cond (not b) (Some x) (find (λ y. not (test y)) xs)) passes ∙ found, fails)

  pub first_fails : (xs : List A) → list_all test xs ≡ false → FirstFails xs
  first_fails [] fail = absurd (true≢false fail)
  first_fails (x ∷ xs) fail = step (test x) refl (first_fails xs)
    where
      step : (b : Bool) → test x ≡ b → (list_all test xs ≡ false → FirstFails xs) → FirstFails (x ∷ xs)
      step true passes rest = later x xs passes (rest (ap (λ b. b && list_all test xs) (sym passes) ∙ fail))
      step false fails rest = (x, ap (λ b. cond (not b) (Some x) (find (λ y. not (test y)) xs)) fails, fails)

pub some_mapped : {A B : Type 0} (f : A → B) (o : Option A) → is_some (option_map f o) ≡ is_some o
some_mapped f None = refl
some_mapped f (Some x) = refl

-- of records with fields that do not all pass, a field is found
module _ {R F : Type 0} (id_of : R → Bytes) (name_of : F → Bytes) (fields : R → List F) (test : R → F → Bool) where
  abbrev place_in : R → Option RecordPlace
  place_in r = field_place (id_of r) (option_map name_of (find (λ f. not (test r f)) (fields r)))

  in_record : (r : R) → FirstFails (test r) (fields r) → is_some (place_in r) ≡ true
  in_record r (f, found, fails) = ap (λ o. is_some (field_place (id_of r) (option_map name_of o))) found

  among : (records : List R) → FirstFails (λ r. list_all (test r) (fields r)) records → is_some (find (λ r. not (list_all (test r) (fields r))) records >>= place_in) ≡ true
  among records (r, found, fails) = ap (λ o. is_some (o >>= place_in)) found ∙ in_record r (first_fails (test r) (fields r) fails)

  pub field_found : (records : List R) → list_all (λ r. list_all (test r) (fields r)) records ≡ false → is_some (find (λ r. not (list_all (test r) (fields r))) records >>= place_in) ≡ true
  field_found records fail = among records (first_fails (λ r. list_all (test r) (fields r)) records fail)

-- ---- numbers

first_holds : (a b : Bool) → (a && b) ≡ true → a ≡ true
first_holds true b h = refl
first_holds false b h = absurd (true≢false (sym h))

second_holds : (a b : Bool) → (a && b) ≡ true → b ≡ true
second_holds true b h = h
second_holds false b h = absurd (true≢false (sym h))

both_some : {A B C : Type 0} (f : A → B → C) (a b : Bool) (x : Option A) (y : Option B) → a ≡ is_some x → b ≡ is_some y → (a && b) ≡ is_some (x >>= λ v. y >>= λ w. Some (f v w))
both_some f a b None y is rest = ap (λ c. c && b) is
both_some f a b (Some v) None is rest = ap (λ c. c && b) is ∙ rest
both_some f a b (Some v) (Some w) is rest = ap (λ c. c && b) is ∙ rest

-- where it has the shape, a value is there exactly where each number is whole
mutual
  whole_value : (d : Data) → has_shape d ≡ true → is_whole d ≡ is_some (file_value d)
  whole_value null h = refl
  whole_value (boolean b) h = refl
  whole_value (number n) h = sym (some_mapped (λ z. value.Scalar (scalar.Int z)) (whole_of n))
  whole_value (string s) h = refl
  whole_value (array ds) h = whole_values ds h ∙ sym (some_mapped value.List (file_values ds))
  whole_value (object ms) h = absurd (true≢false (sym h))

  whole_values : (ds : Items) → have_shape ds ≡ true → are_whole ds ≡ is_some (file_values ds)
  whole_values no_items h = refl
  whole_values (item d ds) h =
      both_some (λ v vs. v ∷ vs) (is_whole d) (are_whole ds) (file_value d) (file_values ds) (whole_value d (first_holds (has_shape d) (have_shape ds) h)) (whole_values ds (second_holds (has_shape d) (have_shape ds) h))

one_more : (k : Bytes) (b : Bool) (v : Option FieldValue) (o : Option Bytes) (fs : Option Fields) → b ≡ is_some v → is_some o ≡ not (is_some fs)
    → is_some (if b then o else Some k) ≡ not (is_some (v >>= λ x. fs >>= λ ys. Some ((k, x) ∷ ys)))
one_more k b None o fs is rest = ap (λ c. is_some (if c then o else Some k)) is
one_more k b (Some x) o None is rest = ap (λ c. is_some (if c then o else Some k)) is ∙ rest
one_more k b (Some x) o (Some ys) is rest = ap (λ c. is_some (if c then o else Some k)) is ∙ rest

misnumbered_or_made : (ms : Members) → fields_have_shape ms ≡ true → is_some (misnumbered ms) ≡ not (is_some (file_fields ms))
misnumbered_or_made no_members h = refl
misnumbered_or_made (member k d ms) h =
    one_more k (is_whole d) (file_value d) (misnumbered ms) (file_fields ms) (whole_value d (first_holds (has_shape d) (fields_have_shape ms) h)) (misnumbered_or_made ms (second_holds (has_shape d) (fields_have_shape ms) h))

abbrev is_shaped : Draft → Bool
is_shaped d = fields_have_shape d.fields

abbrev pub are_shaped : List Draft → Bool
are_shaped drafts = list_all is_shaped drafts

abbrev is_bad : Draft → Bool
is_bad d = is_some (misnumbered d.fields)

abbrev number_in : Draft → Option RecordPlace
number_in d = field_place d.id (misnumbered d.fields)

-- records of drafts, the first and then the rest
abbrev made : Bytes → (Fields → Record) → Option Fields → Option Entries → Option Entries
made id record_with fields rest = (fields >>= λ x. Some (id, record_with x)) >>= λ r. rest >>= λ rs. Some (r ∷ rs)

rest_is_none : (id : Bytes) (record_with : Fields → Record) (fields : Option Fields) (rest : Option Entries) → false ≡ not (is_some fields) → made id record_with fields rest ≡ None → rest ≡ None
rest_is_none id record_with None rest is none = absurd (true≢false (sym is))
rest_is_none id record_with (Some x) None is none = refl
rest_is_none id record_with (Some x) (Some rs) is none = absurd (true≢false (ap is_some none))

number_step : (d : Draft) (ds : List Draft) (o : Option Bytes) → misnumbered d.fields ≡ o → is_some (misnumbered d.fields) ≡ not (is_some (file_fields d.fields)) → records_of (d ∷ ds) ≡ None
    → (records_of ds ≡ None → is_some (bad_number ds) ≡ true) → is_some (bad_number (d ∷ ds)) ≡ true
number_step d ds (Some k) first told none rest =
    ap (λ b. is_some (cond b (Some d) (find is_bad ds) >>= number_in)) (ap is_some first) ∙ ap (λ o. is_some (field_place d.id o)) first
number_step d ds None first told none rest =
    ap (λ b. is_some (cond b (Some d) (find is_bad ds) >>= number_in)) (ap is_some first)
    ∙ rest (rest_is_none d.id (λ fields. record { type_name = d.type_name; fields = fields }) (file_fields d.fields) (records_of ds) (sym (ap is_some first) ∙ told) none)

pub number_found : (drafts : List Draft) → are_shaped drafts ≡ true → records_of drafts ≡ None → is_some (bad_number drafts) ≡ true
number_found [] h none = absurd (true≢false (ap is_some none))
number_found (d ∷ ds) h none =
    number_step d ds (misnumbered d.fields) refl (misnumbered_or_made d.fields (first_holds (is_shaped d) (are_shaped ds) h)) none (number_found ds (second_holds (is_shaped d) (are_shaped ds) h))

-- ---- ids

ids_step : (id : Bytes) (ids : List Bytes) (record_with : Fields → Record) (fields : Option Fields) (rest : Option Entries) (records : Entries)
    → ((found : Entries) → rest ≡ Some found → keys_of found ≡ ids) → made id record_with fields rest ≡ Some records → keys_of records ≡ id ∷ ids
ids_step id ids record_with None rest records kept told = absurd (none-some records told)
ids_step id ids record_with (Some x) None records kept told = absurd (none-some records told)
ids_step id ids record_with (Some x) (Some rs) records kept told = ap keys_of (sym (same_Some ((id, record_with x) ∷ rs) records told)) ∙ ap (λ names. id ∷ names) (kept rs refl)

-- the ids of records are those of their drafts
pub ids_kept : (drafts : List Draft) (records : Entries) → records_of drafts ≡ Some records → keys_of records ≡ map (λ d. d.id) drafts
ids_kept [] records told = ap keys_of (sym (same_Some [] records told))
ids_kept (d ∷ ds) records told =
    ids_step d.id (map (λ d. d.id) ds) (λ fields. record { type_name = d.type_name; fields = fields }) (file_fields d.fields) (records_of ds) records (ids_kept ds) told

-- ---- shapes

shape_kept : (o : Option Members) (ms : Members) → (o >>= λ members. if fields_have_shape members then Some members else None) ≡ Some ms → fields_have_shape ms ≡ true
shape_kept None ms told = absurd (none-some ms told)
shape_kept (Some members) ms told = by_shape (fields_have_shape members) refl told
  where
    by_shape : (b : Bool) → fields_have_shape members ≡ b → (if b then Some members else None) ≡ Some ms → fields_have_shape ms ≡ true
    by_shape true is told = ap fields_have_shape (sym (same_Some members ms told)) ∙ is
    by_shape false is told = absurd (none-some ms told)

fields_shaped : (o : Option Data) (ms : Members) → (o >>= λ d. as_object d >>= λ members. if fields_have_shape members then Some members else None) ≡ Some ms → fields_have_shape ms ≡ true
fields_shaped None ms told = absurd (none-some ms told)
fields_shaped (Some d) ms told = shape_kept (as_object d) ms told

abbrev draft_from : Bytes → Bytes → Members → Draft
draft_from id type_name fields = record { id = id; type_name = type_name; fields = fields }

draft_step : (id name : Option Bytes) (fields : Option Members) (draft : Draft) → ((ms : Members) → fields ≡ Some ms → fields_have_shape ms ≡ true)
    → (id >>= λ i. name >>= λ n. fields >>= λ ms. Some (draft_from i n ms)) ≡ Some draft → is_shaped draft ≡ true
draft_step None name fields draft shaped told = absurd (none-some draft told)
draft_step (Some i) None fields draft shaped told = absurd (none-some draft told)
draft_step (Some i) (Some n) None draft shaped told = absurd (none-some draft told)
draft_step (Some i) (Some n) (Some ms) draft shaped told = ap is_shaped (sym (same_Some (draft_from i n ms) draft told)) ∙ shaped ms refl

draft_shaped : (d : Data) (draft : Draft) → draft_of d ≡ Some draft → is_shaped draft ≡ true
draft_shaped d draft told = draft_step (text_at (codes "id") d) (text_at (codes "type") d) (fields_member d) draft (fields_shaped (get (codes "fields") d)) told

each_step : (o : Option Draft) (rest : Option (List Draft)) (drafts : List Draft) → ((x : Draft) → o ≡ Some x → is_shaped x ≡ true) → ((xs : List Draft) → rest ≡ Some xs → are_shaped xs ≡ true)
    → (o >>= λ x. rest >>= λ xs. Some (x ∷ xs)) ≡ Some drafts → are_shaped drafts ≡ true
each_step None rest drafts here later told = absurd (none-some drafts told)
each_step (Some x) None drafts here later told = absurd (none-some drafts told)
each_step (Some x) (Some xs) drafts here later told =
    ap are_shaped (sym (same_Some (x ∷ xs) drafts told)) ∙ ap (λ b. b && are_shaped xs) (here x refl) ∙ later xs refl

drafts_shaped : (ds : Items) (drafts : List Draft) → each_read draft_of ds ≡ Some drafts → are_shaped drafts ≡ true
drafts_shaped no_items drafts told = ap are_shaped (sym (same_Some [] drafts told))
drafts_shaped (item d ds) drafts told = each_step (draft_of d) (each_read draft_of ds) drafts (draft_shaped d) (drafts_shaped ds) told

array_shaped : (o : Option Items) (drafts : List Draft) → (o >>= each_read draft_of) ≡ Some drafts → are_shaped drafts ≡ true
array_shaped None drafts told = absurd (none-some drafts told)
array_shaped (Some ds) drafts told = drafts_shaped ds drafts told

list_shaped : (o : Option Data) (drafts : List Draft) → (o >>= list_read draft_of) ≡ Some drafts → are_shaped drafts ≡ true
list_shaped None drafts told = absurd (none-some drafts told)
list_shaped (Some d) drafts told = array_shaped (as_array d) drafts told

abbrev file_from : Bytes → List Draft → Drafts
file_from root records = record { root = root; records = records }

file_step : (root : Option Bytes) (o : Option (List Draft)) (file : Drafts) → ((drafts : List Draft) → o ≡ Some drafts → are_shaped drafts ≡ true)
    → (root >>= λ r. o >>= λ drafts. Some (file_from r drafts)) ≡ Some file → are_shaped file.records ≡ true
file_step None o file shaped told = absurd (none-some file told)
file_step (Some r) None file shaped told = absurd (none-some file told)
file_step (Some r) (Some drafts) file shaped told = ap (λ (f : Drafts). are_shaped f.records) (sym (same_Some (file_from r drafts) file told)) ∙ shaped drafts refl

-- the drafts of a file have the shape
pub file_shaped : (d : Data) (file : Drafts) → file_of d ≡ Some file → are_shaped file.records ≡ true
file_shaped d file told = file_step (root_in d) (drafts_in d) file (list_shaped (get (codes "records") d)) told
