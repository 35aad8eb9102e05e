-- A file has a fault of its shape exactly where it can't be drafted; and how the first fault of a list is looked for.
use Rattle.std.proofs.Common.{◌≡◌, ◌<◌, ◌≤◌, ◌+◌, ◌∷◌, ◌&&◌, ◌∙◌, ℕ, Bool, true, false, if◌then◌else◌, List, drop, length, get_or, Option, Some, None, Err, is_some, is_none, ok_or, is_ok, refl, sym, ap, true≢false}
use Rattle.std.specs.Option.{option_and_then, option_map, option_or}
use Rattle.std.proofs.lemmas.List.{at_drop_all, at_drop_more}
use Rattle.serde_json.specs.Data.{Data, null, boolean, number, string, array, object, Items, no_items, item, Members, no_members, member}
use Rattle.serde_json.specs.Find.{as_array, as_object, get}
use Rattle.serde_json.specs.View.{view, items_view}
use Rattle.serde_json.specs.declared.value.Value.{Value}
use Rattle.graphql_json.specs.Parts.{◌>>=◌, each_read, list_read, text_at, unless}
use Rattle.graphql_names.specs.Names.{Bytes}
use Rattle.std.specs.Prelude.{codes}
use Rattle.graphql_data_files.specs.Drafts.{Draft, Drafts, draft_of, drafts_in, fields_member, file_of, root_in}
use Rattle.graphql_data_files.specs.FileValues.{fields_have_shape, has_shape}
use Rattle.graphql_data_files.specs.RecordShapes.{fields_fault, file_fault, first_fault, items_fault, misshapen, record_fault, roots_fault}
use Rattle.graphql_data_files.specs.declared.data_file_error.DataFileError.{DataFileError}
use Rattle.graphql_data_files.specs.declared.data_file_error.DataFileError.TheVariants as fault
use Rattle.graphql_data_files.specs.declared.shape_place.ShapePlace.{ShapePlace}
use Rattle.graphql_data_files.specs.declared.shape_place.ShapePlace.TheVariants as place

-- a fault is found exactly where a reading finds nothing
abbrev Opposed : {A : Type 0} → Option ShapePlace → Option A → Type 0
Opposed fault found = is_none fault ≡ is_some found

-- a step, and then what needs its value
both : {A B : Type 0} (fault rest : Option ShapePlace) (found : Option A) (next : A → Option B) → Opposed fault found → ((x : A) → Opposed rest (next x))
    → Opposed (option_or fault rest) (option_and_then next found)
both None rest (Some x) next e then_so = then_so x
both (Some f) rest None next e then_so = refl
both None rest None next e then_so = absurd (true≢false e)
both (Some f) rest (Some x) next e then_so = absurd (true≢false (sym e))

-- the last step
last : {A B : Type 0} (fault : Option ShapePlace) (found : Option A) (made : A → B) → Opposed fault found → Opposed fault (option_and_then (λ x. Some (made x)) found)
last fault None made e = e
last fault (Some x) made e = e

unless_so : {A : Type 0} (found : Option A) (f : ShapePlace) → Opposed (unless (is_some found) f) found
unless_so None f = refl
unless_so (Some x) f = refl

in_turn : (f g h : Option ShapePlace) → option_or (option_or f g) h ≡ option_or f (option_or g h)
in_turn None g h = refl
in_turn (Some x) g h = refl

-- ---- the fields of a record

one_more : (b : Bool) (rest : Option Bytes) (k : Bytes) (shaped : Bool) → is_none rest ≡ shaped → is_none (if b then rest else Some k) ≡ (b && shaped)
one_more true rest k shaped e = e
one_more false rest k shaped e = refl

misshapen_so : (ms : Members) → is_none (misshapen ms) ≡ fields_have_shape ms
misshapen_so no_members = refl
misshapen_so (member k d ms) = one_more (has_shape d) (misshapen ms) k (fields_have_shape ms) (misshapen_so ms)

mapped : (at : ℕ) (name : Option Bytes) → is_none (option_map (place.Field at) name) ≡ is_none name
mapped at None = refl
mapped at (Some name) = refl

where_so : {A : Type 0} (b : Bool) (x : A) → is_some (if b then Some x else None) ≡ b
where_so true x = refl
where_so false x = refl

members_so : (at : ℕ) (o : Option Members) → Opposed (fields_fault at o) (option_and_then (λ ms. if fields_have_shape ms then Some ms else None) o)
members_so at None = refl
members_so at (Some ms) = mapped at (misshapen ms) ∙ misshapen_so ms ∙ sym (where_so (fields_have_shape ms) ms)

fields_so : (at : ℕ) (o : Option Data) → Opposed (fields_fault at (o >>= as_object)) (o >>= λ value. as_object value >>= λ ms. if fields_have_shape ms then Some ms else None)
fields_so at None = refl
fields_so at (Some value) = members_so at (as_object value)

-- ---- a record, and each of a list

abbrev draft_made : Bytes → Bytes → Members → Draft
draft_made id type_name fields = record { id = id; type_name = type_name; fields = fields }

record_so : (at : ℕ) (d : Data) → Opposed (record_fault at d) (draft_of d)
record_so at null = refl
record_so at (boolean b) = refl
record_so at (number n) = refl
record_so at (string s) = refl
record_so at (array ds) = refl
record_so at (object ms) =
    let d = object ms in
    let id = unless (is_some (text_at (codes "id") d)) (place.Id at) in
    let type_name = unless (is_some (text_at (codes "type") d)) (place.Type at) in
    let fields = fields_fault at (get (codes "fields") d >>= as_object) in
    let so : Opposed (option_or id (option_or type_name fields)) (draft_of d) =
    both id (option_or type_name fields) (text_at (codes "id") d) (λ i. text_at (codes "type") d >>= λ t. fields_member d >>= λ fs. Some (draft_made i t fs)) (unless_so (text_at (codes "id") d) (place.Id at))
    (λ i. both type_name fields (text_at (codes "type") d) (λ t. fields_member d >>= λ fs. Some (draft_made i t fs)) (unless_so (text_at (codes "type") d) (place.Type at))
    (λ t. last fields (fields_member d) (draft_made i t) (fields_so at (get (codes "fields") d)))) in
    ap is_none (in_turn id type_name fields) ∙ so

each_so : (i : ℕ) (ds : Items) → Opposed (first_fault i ds) (each_read draft_of ds)
each_so i no_items = refl
each_so i (item d ds) =
    both (record_fault i d) (first_fault (i + 1) ds) (draft_of d) (λ x. each_read draft_of ds >>= λ xs. Some (x ∷ xs)) (record_so i d)
    (λ x. last (first_fault (i + 1) ds) (each_read draft_of ds) (λ xs. x ∷ xs) (each_so (i + 1) ds))

items_so : (o : Option Items) → Opposed (items_fault o) (o >>= each_read draft_of)
items_so None = refl
items_so (Some ds) = each_so 0 ds

list_so : (o : Option Data) → Opposed (items_fault (o >>= as_array)) (o >>= list_read draft_of)
list_so None = refl
list_so (Some v) = items_so (as_array v)

-- ---- a file

root_so : (o : Option Data) → Opposed (roots_fault o) (o >>= text_at (codes "query"))
root_so None = refl
root_so (Some null) = refl
root_so (Some (boolean b)) = refl
root_so (Some (number n)) = refl
root_so (Some (string s)) = refl
root_so (Some (array ds)) = refl
root_so (Some (object ms)) = unless_so (text_at (codes "query") (object ms)) place.Root

abbrev file_made : Bytes → List Draft → Drafts
file_made root records = record { root = root; records = records }

file_so : (d : Data) → Opposed (file_fault d) (file_of d)
file_so null = refl
file_so (boolean b) = refl
file_so (number n) = refl
file_so (string s) = refl
file_so (array ds) = refl
file_so (object ms) =
    let d = object ms in
    both (roots_fault (get (codes "roots") d)) (items_fault (get (codes "records") d >>= as_array)) (root_in d) (λ root. drafts_in d >>= λ records. Some (file_made root records)) (root_so (get (codes "roots") d))
    (λ root. last (items_fault (get (codes "records") d >>= as_array)) (drafts_in d) (file_made root) (list_so (get (codes "records") d)))

-- what can't be drafted has a fault of its shape
pub shapeless : (d : Data) → file_of d ≡ None → is_some (file_fault d) ≡ true
shapeless d none = by (file_fault d) (file_of d) (file_so d) none
  where
    by : (fault : Option ShapePlace) (found : Option Drafts) → Opposed fault found → found ≡ None → is_some fault ≡ true
    by (Some f) found e none = refl
    by None found e none = absurd (true≢false (e ∙ ap is_some none))

-- bytes that are no JSON have no fault of the shape
pub no_shape : (o : Option Data) (e : DataFileError) → ok_or o fault.NotJson ≡ Err e → None ≡ o >>= file_fault
no_shape None e told = refl
no_shape (Some d) e told = absurd (true≢false (ap is_ok told))

-- ---- a step, and then another where it finds nothing

pub found_so : (first rest : Option ShapePlace) (place : ShapePlace) → first ≡ Some place → Some place ≡ option_or first rest
found_so first rest place is = sym (ap (λ o. option_or o rest) is)

pub not_found_so : (first rest : Option ShapePlace) → first ≡ None → option_or first rest ≡ rest
not_found_so first rest is = ap (λ o. option_or o rest) is

-- ---- one turn of the loop over records

module _ (whole : Option ShapePlace) (items : List Value) (i : ℕ) where
  abbrev left : ℕ → List Value → Option ShapePlace
  left k vs = first_fault k (items_view vs)

  abbrev SoFar : Type 0
  SoFar = whole ≡ left i (drop i items)

  step : (this : Value) (found : Option ShapePlace) → i < length items → this ≡ get_or items i this → found ≡ record_fault i (view this) → SoFar
      → whole ≡ option_or found (left (i + 1) (drop (i + 1) items))
  step this found inside here is so_far =
      let rest = drop (i + 1) items in
      so_far ∙ at_drop_more (left i) items i this inside
      ∙ ap (λ v. left i (v ∷ rest)) (sym here)
      ∙ ap (λ o. option_or o (left (i + 1) rest)) (sym is)

  pub fault_turn : (this : Value) (found : Option ShapePlace) → i < length items → this ≡ get_or items i this → found ≡ record_fault i (view this) → found ≡ None → SoFar
      → whole ≡ left (i + 1) (drop (i + 1) items)
  fault_turn this found inside here is none so_far = step this found inside here is so_far ∙ ap (λ o. option_or o (left (i + 1) (drop (i + 1) items))) none

  pub fault_first : (this : Value) (found : Option ShapePlace) (place : ShapePlace) → i < length items → this ≡ get_or items i this → found ≡ record_fault i (view this) → found ≡ Some place → SoFar
      → whole ≡ Some place
  fault_first this found place inside here is some so_far = step this found inside here is so_far ∙ ap (λ o. option_or o (left (i + 1) (drop (i + 1) items))) some

  pub fault_nowhere : length items ≤ i → SoFar → whole ≡ None
  fault_nowhere past so_far = so_far ∙ at_drop_all (left i) items i past
