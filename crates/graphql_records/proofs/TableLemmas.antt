-- Records that are added one after the other.
use Rattle.std.proofs.Common.{◌≡◌, ◌||◌, ℕ, zero, suc, Bool, true, false, cond, [], ◌∷◌, ◌++◌, Option, Some, None, is_some, refl, sym, ap, ◌∙◌, append_assoc, true≢false}
use Rattle.std.proofs.lemmas.List.{map-append}
use Rattle.std.specs.Map.{keys_of, lookup, values_of}
use Rattle.std.specs.Option.{option_map_or}
use Rattle.std.specs.Prelude.{List, slice_get}
use Rattle.std.specs.Str.{bytes_eq}
use Rattle.indexmap.specs.IndexMap.{insert_entry}
use Rattle.indexmap.specs.Layout.{set_value_at}
use Rattle.graphql_names.specs.Names.{Bytes, is_one_of, stands_twice}
use Rattle.graphql_records.specs.Settings.{Fields, record_with}
use Rattle.graphql_records.specs.Tables.{Entries}
use Rattle.graphql_records.specs.declared.record.Record.{Record}
use Rattle.graphql_names.proofs.Repeats.{again, first, kept}

-- an id is one of the ids where a look-up finds it
pub found_is_there : (id : Bytes) (records : Entries) → is_one_of (keys_of records) id ≡ is_some (lookup (bytes_eq id) records)
found_is_there id [] = refl
found_is_there id (r ∷ records) = either (bytes_eq id r.0) (found_is_there id records)
  where
    either : (b : Bool) → is_one_of (keys_of records) id ≡ is_some (lookup (bytes_eq id) records) → (b || is_one_of (keys_of records) id) ≡ is_some (cond b (Some r.1) (lookup (bytes_eq id) records))
    either true rest = refl
    either false rest = rest

keys_push : (records : Entries) (id : Bytes) (r : Record) → keys_of (records ++ (id, r) ∷ []) ≡ keys_of records ++ id ∷ []
keys_push records id r = map-append (λ x. x.0) records ((id, r) ∷ [])

-- an id that is among those before it stands twice
pub twice : (done : Entries) (id : Bytes) (r : Record) (left : Entries) → is_one_of (keys_of done) id ≡ true → stands_twice (keys_of (done ++ (id, r) ∷ left)) id ≡ true
twice done id r left there =
    ap (λ ids. stands_twice ids id) (map-append (λ x. x.0) done ((id, r) ∷ left) ∙ sym (append_assoc (keys_of done) (id ∷ []) (keys_of left)))
    ∙ kept (keys_of done ++ id ∷ []) (keys_of left) id (again (keys_of done) id there)

-- one that is not does not make one stand twice
pub once : (done : Entries) (id : Bytes) (r : Record) → is_one_of (keys_of done) id ≡ false → ((q : Bytes) → stands_twice (keys_of done) q ≡ false) → (q : Bytes) → stands_twice (keys_of (done ++ (id, r) ∷ [])) q ≡ false
once done id r absent once_each q = ap (λ ids. stands_twice ids q) (keys_push done id r) ∙ first (keys_of done) id q absent (once_each q)

-- a new id goes last
pub insert_new : (id : Bytes) (r : Record) (records : Entries) → lookup (bytes_eq id) records ≡ None → insert_entry bytes_eq records id r ≡ records ++ (id, r) ∷ []
insert_new id r [] new = refl
insert_new id r (x ∷ records) new = either (bytes_eq id x.0) new (insert_new id r records)
  where
    either : (b : Bool) → cond b (Some x.1) (lookup (bytes_eq id) records) ≡ None → (lookup (bytes_eq id) records ≡ None → insert_entry bytes_eq records id r ≡ records ++ (id, r) ∷ [])
        → cond b ((x.0, r) ∷ records) (x ∷ insert_entry bytes_eq records id r) ≡ x ∷ (records ++ (id, r) ∷ [])
    either true found rest = absurd (cc)
    either false absent rest = ap (λ rs. x ∷ rs) (rest absent)

-- one record more
pub moved : (whole done new : Entries) (left rest : Entries) (x : Bytes × Record) → whole ≡ done ++ left → left ≡ x ∷ rest → new ≡ done ++ x ∷ [] → whole ≡ new ++ rest
moved whole done new left rest x so_far next pushed = so_far ∙ ap (λ rs. done ++ rs) next ∙ sym (append_assoc done (x ∷ []) rest) ∙ ap (λ rs. rs ++ rest) (sym pushed)

pub nothing_behind : (records : Entries) → records ++ [] ≡ records
nothing_behind [] = refl
nothing_behind (r ∷ records) = ap (λ rs. r ∷ rs) (nothing_behind records)

pub none_found : {A : Type 0} (o : Option A) → is_some o ≡ false → o ≡ None
none_found None h = refl
none_found (Some x) h = absurd (true≢false h)

-- a value that stands at a place, put there again, leaves the entries
put_again : {K X : Type 0} (es : List (K × X)) (i : ℕ) (w : X) → Some w ≡ slice_get (values_of es) i → set_value_at es i w ≡ es
put_again [] i w there = refl
put_again (e ∷ es) zero w there = ap (λ o. (e.0, option_map_or (λ v. v) o w) ∷ es) there
put_again (e ∷ es) (suc i) w there = ap (λ rest. e ∷ rest) (put_again es i w there)

-- so a record whose fields are put in place once more leaves the table
pub left_alone : (records after : Entries) (place : ℕ) (r : Record) (fields : Fields) → Some r ≡ slice_get (values_of records) place
    → after ≡ set_value_at records place (record_with fields r) → fields ≡ r.fields → after ≡ records
left_alone records after place r fields there set same = set ∙ ap (λ fs. set_value_at records place (record_with fs r)) same ∙ put_again records place r there
