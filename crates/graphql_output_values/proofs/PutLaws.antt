-- What stands under each key once a value was put under one, and where.
use Rattle.std.proofs.Common.{◌≡◌, ℕ, Bool, true, false, cond, ◌||◌, List, [], ◌∷◌, ◌++◌, Option, Some, is_some, ap, sym, refl, ◌∙◌}
use Rattle.std.specs.List.{list_any}
use Rattle.std.specs.Map.{lookup, keys_of}
use Rattle.std.specs.Str.{bytes_eq}
use Rattle.std.proofs.lemmas.Slice.Eq.{bytes_eq-Decides}
use Rattle.graphql_output_values.specs.Laws.{PutUnder, KeysKeepPlaces}
use Rattle.graphql_output_values.specs.Objects.{Pair, field_value, with_field}
use Rattle.graphql_output_values.proofs.ObjectLemmas.{keys_after}

module _ {A : Type 0} where
  replaced : (c : Bool) (v w : A) (rest : Option A) → cond c (Some v) rest ≡ cond c (Some v) (cond c (Some w) rest)
  replaced true v w rest = refl
  replaced false v w rest = refl

  swapped : (c d : Bool) (v w : A) (rest : Option A) → (c ≡ true → d ≡ true → ⊥) → cond c (Some w) (cond d (Some v) rest) ≡ cond d (Some v) (cond c (Some w) rest)
  swapped true true v w rest never = absurd (never refl refl)
  swapped true false v w rest never = refl
  swapped false true v w rest never = refl
  swapped false false v w rest never = refl

  pub put_under : PutUnder A
  put_under [] key v other = refl
  put_under (f ∷ fs) key v other = either (bytes_eq key f.0) refl (put_under fs key v other)
    where
      either : (b : Bool) → bytes_eq key f.0 ≡ b → field_value (with_field fs key v) other ≡ cond (bytes_eq other key) (Some v) (field_value fs other)
          → lookup (bytes_eq other) (cond b ((f.0, v) ∷ fs) (f ∷ with_field fs key v)) ≡ cond (bytes_eq other key) (Some v) (cond (bytes_eq other f.0) (Some f.1) (field_value fs other))
      either true is rest =
          replaced (bytes_eq other f.0) v f.1 (field_value fs other) ∙ ap (λ k. cond (bytes_eq other k) (Some v) (cond (bytes_eq other f.0) (Some f.1) (field_value fs other))) (sym ((bytes_eq-Decides key f.0).0 is))
      either false is rest =
          ap (cond (bytes_eq other f.0) (Some f.1)) rest
          ∙ swapped (bytes_eq other f.0) (bytes_eq other key) v f.1 (field_value fs other) (λ c d. let same : bytes_eq key f.0 ≡ true = (bytes_eq-Decides key f.0).1 (sym ((bytes_eq-Decides other key).0 d) ∙ (bytes_eq-Decides other f.0).0 c) in cc)

  any_is_some : (t : List ℕ → Bool) (fs : List (Pair A)) → list_any t (keys_of fs) ≡ is_some (lookup t fs)
  any_is_some t [] = refl
  any_is_some t (f ∷ fs) = either (t f.0) (any_is_some t fs)
    where
      either : (b : Bool) → list_any t (keys_of fs) ≡ is_some (lookup t fs) → (b || list_any t (keys_of fs)) ≡ is_some (cond b (Some f.1) (lookup t fs))
      either true rest = refl
      either false rest = rest

  pub keys_keep_places : KeysKeepPlaces A
  keys_keep_places fs key v = keys_after key v fs ∙ ap (λ b. cond b (keys_of fs) (keys_of fs ++ key ∷ [])) (any_is_some (bytes_eq key) fs)
