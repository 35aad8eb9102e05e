-- One turn of a loop over JSON: what was found, and then what is left, is what the whole gives.
use Rattle.std.proofs.Common.{◌≡◌, ℕ, ◌+◌, ◌<◌, List, [], ◌∷◌, ◌++◌, drop, length, get_or, Option, Some, None, refl, sym, ap, ◌∙◌, append_assoc, string_bytes}
use Rattle.std.proofs.lemmas.List.{at_drop_more}
use Rattle.serde_json.specs.View.{view, items_view, members_view}
use Rattle.serde_json.specs.declared.value.Value.{Value}
use Rattle.serde_json.specs.Data.{Data, Items, item, Members, member}
use Rattle.serde_json.proofs.Views.{Entry}
use Rattle.graphql_json.specs.Parts.{◌>>=◌}
use Rattle.graphql_json.proofs.EachTurns.{from}
use Rattle.graphql_names.specs.Names.{Bytes}
use Rattle.graphql_records.specs.Settings.{Fields}
use Rattle.graphql_records.specs.declared.field_value.FieldValue.{FieldValue}
use Rattle.graphql_data_files.specs.FileValues.{file_value, file_values, file_fields}

-- one found more
pub behind : {A : Type 0} (found : List A) (x : A) (rest : Option (List A)) → from found (rest >>= λ ys. Some (x ∷ ys)) ≡ from (found ++ x ∷ []) rest
behind found x None = refl
behind found x (Some ys) = ap Some (sym (append_assoc found (x ∷ []) ys))

item_found : (found : List FieldValue) (d : Data) (ds : Items) (x : FieldValue) → file_value d ≡ Some x → from found (file_values (item d ds)) ≡ from (found ++ x ∷ []) (file_values ds)
item_found found d ds x e = rw e (behind found x (file_values ds))

member_found : (found : Fields) (k : Bytes) (d : Data) (ms : Members) (x : FieldValue) → file_value d ≡ Some x → from found (file_fields (member k d ms)) ≡ from (found ++ (k, x) ∷ []) (file_fields ms)
member_found found k d ms x e = rw e (behind found (k, x) (file_fields ms))

pub item_turn : (whole : Option (List FieldValue)) (items : List Value) (i : ℕ) (this : Value) (x : FieldValue) (found new : List FieldValue)
    → i < length items → get_or items i this ≡ this → file_value (view this) ≡ Some x → new ≡ found ++ x ∷ []
    → whole ≡ from found (file_values (items_view (drop i items)))
    → whole ≡ from new (file_values (items_view (drop (i + 1) items)))
item_turn whole items i this x found new inside here means pushed so_far =
    let left : List Value → Option (List FieldValue) = λ vs. from found (file_values (items_view vs)) in
    rw pushed (so_far ∙ at_drop_more left items i this inside ∙ ap (λ v. left (v ∷ drop (i + 1) items)) here ∙ item_found found (view this) (items_view (drop (i + 1) items)) x means)

pub member_turn : (whole : Option Fields) (left rest : List Entry) (e : Entry) (x : FieldValue) (found new : Fields)
    → left ≡ e ∷ rest → file_value (view e.1) ≡ Some x → new ≡ found ++ (string_bytes e.0, x) ∷ []
    → whole ≡ from found (file_fields (members_view left))
    → whole ≡ from new (file_fields (members_view rest))
member_turn whole left rest e x found new next means pushed so_far =
    rw pushed (so_far ∙ ap (λ es. from found (file_fields (members_view es))) next ∙ member_found found (string_bytes e.0) (view e.1) (members_view rest) x means)
