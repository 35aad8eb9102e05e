-- One turn of a loop that reads each item of a list: what was found, and then what is left, is what the whole gives.
use Rattle.std.proofs.Common.{◌≡◌, ℕ, ◌+◌, ◌<◌, List, [], ◌∷◌, ◌++◌, drop, length, get_or, Option, Some, None, option_map, refl, sym, ap, ◌∙◌, append_assoc}
use Rattle.std.proofs.lemmas.List.{at_drop_more}
use Rattle.serde_json.specs.View.{view, items_view}
use Rattle.serde_json.specs.declared.value.Value.{Value}
use Rattle.serde_json.specs.Data.{Data, Items, item}
use Rattle.graphql_json.specs.Parts.{◌>>=◌, each_read}

-- what was found before the rest
abbrev pub from : {A : Type 0} → List A → Option (List A) → Option (List A)
from found rest = option_map (λ ys. found ++ ys) rest

-- `read`: what an item is
module _ {A : Type 0} (read : Data → Option A) where
  behind : (found : List A) (x : A) (rest : Option (List A)) → from found (rest >>= λ ys. Some (x ∷ ys)) ≡ from (found ++ x ∷ []) rest
  behind found x None = refl
  behind found x (Some ys) = ap Some (sym (append_assoc found (x ∷ []) ys))

  found_one : (found : List A) (d : Data) (ds : Items) (x : A) → read d ≡ Some x → from found (each_read read (item d ds)) ≡ from (found ++ x ∷ []) (each_read read ds)
  found_one found d ds x e = rw e (behind found x (each_read read ds))

  pub each_turn : (whole : Option (List A)) (items : List Value) (i : ℕ) (this : Value) (x : A) (found new : List A)
      → i < length items → get_or items i this ≡ this → read (view this) ≡ Some x → new ≡ found ++ x ∷ []
      → whole ≡ from found (each_read read (items_view (drop i items)))
      → whole ≡ from new (each_read read (items_view (drop (i + 1) items)))
  each_turn whole items i this x found new inside here means pushed so_far =
      let left : List Value → Option (List A) = λ vs. from found (each_read read (items_view vs)) in
      rw pushed (so_far ∙ at_drop_more left items i this inside ∙ ap (λ v. left (v ∷ drop (i + 1) items)) here ∙ found_one found (view this) (items_view (drop (i + 1) items)) x means)

  -- where one is none, so is the whole
  pub each_stops : (whole : Option (List A)) (items : List Value) (i : ℕ) (this : Value) (found : List A) → i < length items → get_or items i this ≡ this → read (view this) ≡ None
      → whole ≡ from found (each_read read (items_view (drop i items))) → whole ≡ None
  each_stops whole items i this found inside here lacks so_far =
      let left : List Value → Option (List A) = λ vs. from found (each_read read (items_view vs)) in
      so_far ∙ at_drop_more left items i this inside ∙ ap (λ v. left (v ∷ drop (i + 1) items)) here
      ∙ ap (λ o. from found (o >>= λ x. each_read read (items_view (drop (i + 1) items)) >>= λ xs. Some (x ∷ xs))) lacks
