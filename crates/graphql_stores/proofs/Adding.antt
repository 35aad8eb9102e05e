-- What is kept once a text is put among others.
use Rattle.std.proofs.Common.{◌≡◌, refl, sym, ◌∙◌, ap, Bool, true, false, ℕ, List, [], Option, Some, Vec, String, Decides, cond, option_map, unwrap_or, string_bytes, inl, inr, ◌⊎◌}
use Rattle.std.specs.HashMap.{HashMap, UpdatesBy, get_by_text}
use Rattle.std.specs.Str.{bytes_eq}
use Rattle.std.specs.String.{string_eq}
use Rattle.std.specs.declared.alloc.Global.{Global}
use Rattle.std.proofs.lemmas.Map.Text.{hash_map_updates_text}
use Rattle.std.proofs.lemmas.Slice.Eq.{bytes_eq-Decides}
use Rattle.graphql_stores.specs.Keeping.{IsKept, KeepsAtMost, KeepsNoMore}
use Rattle.graphql_stores.specs.Texts.{AddsAtMost, stored_text}
use Rattle.graphql_stores.specs.declared.kept_texts.KeptTexts.{KeptTexts}

abbrev items_of : Option (Vec ℕ Global) → Option (List ℕ)
items_of o = option_map (λ (v : Vec ℕ Global). v.items) o

at-key : (key k t : List ℕ) (value : Vec ℕ Global) (other : Option (Vec ℕ Global)) (b : Bool) → Decides b (key ≡ k)
    → items_of (cond b (Some value) other) ≡ Some t → (items_of other ≡ Some t) ⊎ ((key ≡ k) × (value.items ≡ t))
at-key key k t value other true decides e = inr (decides.0 refl, ap (λ (o : Option (List ℕ)). unwrap_or o []) e)
at-key key k t value other false decides e = inl e

module _ {H : Type 0} where
  pub added-at-most : (key : String Global) (value : Vec ℕ Global) (old new : HashMap (String Global) (Vec ℕ Global) H)
      → UpdatesBy string_eq (λ k. bytes_eq (string_bytes key) (string_bytes k)) old new (Some value)
      → AddsAtMost old new (string_bytes key) value.items
  added-at-most key value old new updates k t e =
      at-key (string_bytes key) k t value (get_by_text old k) (bytes_eq (string_bytes key) k) (bytes_eq-Decides (string_bytes key) k)
      (ap items_of (sym (hash_map_updates_text (string_bytes key) old new (Some value) updates k)) ∙ e)

-- of two generations, the younger one with this text more
pub keeps-at-most : (old mid new : KeptTexts) (key text : List ℕ) → KeepsNoMore old mid
    → AddsAtMost mid.younger new.younger key text → new.older ≡ mid.older → KeepsAtMost old new key text
keeps-at-most old mid new key text before adds same k t (inr o) =
    inl (before k t (inr (ap (λ texts. stored_text texts k) (sym same) ∙ o)))
keeps-at-most old mid new key text before adds same k t (inl y) =
    elim (adds k t y) [ inl h ↦ inl (before k t (inl h)) | inr h ↦ inr h ]
