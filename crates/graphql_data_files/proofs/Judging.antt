-- Records, judged in the order of the faults.
use Rattle.std.proofs.Common.{◌≡◌, ◌+◌, ◌<◌, ◌||◌, Bool, true, false, not, cond, List, [], ◌∷◌, Result, Err, if◌then◌else◌, count_by, ltb-true, refl, sym, ap, ◌∙◌, arith}
use Rattle.std.specs.List.{list_all, list_any}
use Rattle.std.specs.Map.{keys_of}
use Rattle.std.specs.Str.{bytes_eq}
use Rattle.std.proofs.lemmas.List.Sums.{sum_by-cons}
use Rattle.graphql_names.specs.Names.{Bytes, stands_twice}
use Rattle.graphql_names.proofs.NameLemmas.{same_bytes}
use Rattle.graphql_records.specs.Tables.{Entries, Table}
use Rattle.graphql_records.specs.declared.table_type.TableType.{TableType}
use Rattle.graphql_data_files.specs.DataFiles.{has_fields, is_of_object_type, judged, linked}
use Rattle.graphql_data_files.specs.declared.data_file_error.DataFileError.{DataFileError}
use Rattle.graphql_data_files.specs.declared.data_file_error.DataFileError.TheVariants.{DuplicateId, UnknownType, UnknownField}

-- a test that none passes, and one that an id among them passes
none_pass : (test : Bytes → Bool) → ((id : Bytes) → test id ≡ false) → (ids : List Bytes) → list_any test ids ≡ false
none_pass test none [] = refl
none_pass test none (id ∷ ids) = ap (λ b. b || list_any test ids) (none id) ∙ none_pass test none ids

one_passes : (test : Bytes → Bool) (id : Bytes) → test id ≡ true → (ids : List Bytes) → 0 < count_by (bytes_eq id) ids → list_any test ids ≡ true
one_passes test id passes [] stands = absurd (omega (arith, stands))
one_passes test id passes (x ∷ ids) stands = either (bytes_eq id x) refl (one_passes test id passes ids)
  where
    behind : (b : Bool) → list_any test ids ≡ true → (b || list_any test ids) ≡ true
    behind true rest = refl
    behind false rest = rest

    either : (b : Bool) → bytes_eq id x ≡ b → (0 < count_by (bytes_eq id) ids → list_any test ids ≡ true) → (test x || list_any test ids) ≡ true
    either true is rest = ap (λ b. b || list_any test ids) (ap test (sym (same_bytes id x is)) ∙ passes)
    either false is rest =
        let counted : count_by (bytes_eq id) (x ∷ ids) ≡ 0 + count_by (bytes_eq id) ids =
        sum_by-cons (λ y. cond (bytes_eq id y) 1 0) x ids ∙ ap (λ b. cond b 1 0 + count_by (bytes_eq id) ids) is in
        behind (test x) (rest (omega (arith, stands, counted)))

pub ids_repeat_at : (id : Bytes) (ids : List Bytes) → stands_twice ids id ≡ true → list_any (stands_twice ids) ids ≡ true
ids_repeat_at id ids twice =
    let two : 1 < count_by (bytes_eq id) ids = ltb-true 1 _ twice in
    one_passes (stands_twice ids) id twice ids (omega (arith, two))

pub ids_differ : (ids : List Bytes) → ((id : Bytes) → stands_twice ids id ≡ false) → list_any (stands_twice ids) ids ≡ false
ids_differ ids once = none_pass (stands_twice ids) once ids

module _ (types : List TableType) (query root : Bytes) (records : Entries) where
  abbrev after : Bool → Bool → Bool → Result Table DataFileError
  after repeat typed known =
      if repeat then Err DuplicateId else
      if not typed then Err UnknownType else
      if not known then Err UnknownField else
      linked types query root records

  abbrev typed : Bool
  typed = list_all (is_of_object_type types) records

  abbrev known : Bool
  known = list_all (has_fields types) records

  pub repeat_refused : (id : Bytes) → stands_twice (keys_of records) id ≡ true → judged types query root records ≡ Err DuplicateId
  repeat_refused id twice =
      ap (λ b. after b typed known) (ids_repeat_at id (keys_of records) twice)

  module _ (once : (id : Bytes) → stands_twice (keys_of records) id ≡ false) where
    differ : judged types query root records ≡ after false typed known
    differ = ap (λ b. after b typed known) (ids_differ (keys_of records) once)

    pub untyped_refused : typed ≡ false → judged types query root records ≡ Err UnknownType
    untyped_refused not_typed = differ ∙ ap (λ b. after false b known) not_typed

    pub unknown_refused : typed ≡ true → known ≡ false → judged types query root records ≡ Err UnknownField
    unknown_refused is_typed not_known = differ ∙ ap (λ b. after false b known) is_typed ∙ ap (λ b. after false true b) not_known

    pub links_left : typed ≡ true → known ≡ true → judged types query root records ≡ linked types query root records
    links_left is_typed is_known = differ ∙ ap (λ b. after false b known) is_typed ∙ ap (λ b. after false true b) is_known
