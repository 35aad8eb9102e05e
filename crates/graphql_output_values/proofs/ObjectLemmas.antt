-- Fields by their keys: what a scan finds, and what a field that is put leaves.
use Rattle.std.proofs.Common.{◌≡◌, ◌<◌, ◌+◌, ◌||◌, ℕ, zero, suc, Bool, true, false, cond, List, [], ◌∷◌, ◌++◌, length, get_or, set, Option, Some, None, is_some, sym, ap, subst, refl, ◌∙◌, arith}
use Rattle.std.specs.List.{IsDistinct, list_any, position, position_from}
use Rattle.std.specs.Map.{lookup, keys_of, set_value}
use Rattle.std.specs.Option.{option_map}
use Rattle.std.specs.Prelude.{slice_get}
use Rattle.graphql_output_values.specs.Lending.{set_value_at}
use Rattle.std.specs.Str.{bytes_eq}
use Rattle.std.specs.Cmp.Lexicographic.{nat_list_eq_equiv}
use Rattle.std.proofs.lemmas.List.Quantifiers.{position-Some}
use Rattle.std.proofs.lemmas.Iterator.Adapters.{position_from-zero}
use Rattle.std.proofs.lemmas.Map.Keys.{IsDistinct-push}
use Rattle.graphql_output_values.specs.Objects.{Pair, HasDistinctKeys, field_value, with_field}

module _ {A : Type 0} where
  -- where the test first passes at the i-th key, a look-up gives the i-th value
  lookup_first : (t : List ℕ → Bool) (fs : List (Pair A)) (i : ℕ) (d : Pair A) → i < length fs → t (get_or fs i d).0 ≡ true → ((k : ℕ) → k < i → t (get_or fs k d).0 ≡ false) → lookup t fs ≡ Some (get_or fs i d).1
  lookup_first t [] i d within passes none = absurd (omega arith)
  lookup_first t (f ∷ fs) zero d within passes none = ap (λ b. cond b (Some f.1) (lookup t fs)) passes
  lookup_first t (f ∷ fs) (suc i) d within passes none =
      ap (λ b. cond b (Some f.1) (lookup t fs)) (none 0 (omega arith)) ∙ lookup_first t fs i d (omega arith) passes (λ k h. none (suc k) (omega arith))

  put_first : (key : List ℕ) (v : A) (fs : List (Pair A)) (i : ℕ) (d : Pair A) → i < length fs → bytes_eq key (get_or fs i d).0 ≡ true → ((k : ℕ) → k < i → bytes_eq key (get_or fs k d).0 ≡ false)
      → with_field fs key v ≡ set fs i ((get_or fs i d).0, v)
  put_first key v [] i d within passes none = absurd (omega arith)
  put_first key v (f ∷ fs) zero d within passes none = ap (λ b. cond b ((f.0, v) ∷ fs) (f ∷ with_field fs key v)) passes
  put_first key v (f ∷ fs) (suc i) d within passes none =
      ap (λ b. cond b ((f.0, v) ∷ fs) (f ∷ with_field fs key v)) (none 0 (omega arith)) ∙ ap (λ gs. f ∷ gs) (put_first key v fs i d (omega arith) passes (λ k h. none (suc k) (omega arith)))

  lookup_nowhere : (t : List ℕ → Bool) (fs : List (Pair A)) (i : ℕ) → position_from (λ f. t f.0) i fs ≡ None → lookup t fs ≡ None
  lookup_nowhere t [] i e = refl
  lookup_nowhere t (f ∷ fs) i e = behind (t f.0) (lookup_nowhere t fs (i + 1)) e
    where
      behind : (b : Bool) → (position_from (λ g. t g.0) (i + 1) fs ≡ None → lookup t fs ≡ None) → cond b (Some i) (position_from (λ g. t g.0) (i + 1) fs) ≡ None → cond b (Some f.1) (lookup t fs) ≡ None
      behind true rest e = cc
      behind false rest e = rest e

  put_nowhere : (key : List ℕ) (v : A) (fs : List (Pair A)) (i : ℕ) → position_from (λ f. bytes_eq key f.0) i fs ≡ None → with_field fs key v ≡ fs ++ (key, v) ∷ []
  put_nowhere key v [] i e = refl
  put_nowhere key v (f ∷ fs) i e = behind (bytes_eq key f.0) (put_nowhere key v fs (i + 1)) e
    where
      behind : (b : Bool) → (position_from (λ g. bytes_eq key g.0) (i + 1) fs ≡ None → with_field fs key v ≡ fs ++ (key, v) ∷ []) → cond b (Some i) (position_from (λ g. bytes_eq key g.0) (i + 1) fs) ≡ None → cond b ((f.0, v) ∷ fs) (f ∷ with_field fs key v) ≡ f ∷ (fs ++ (key, v) ∷ [])
      behind true rest e = cc
      behind false rest e = ap (λ gs. f ∷ gs) (rest e)

  set_first : (t : List ℕ → Bool) (w : A) (fs : List (Pair A)) (i : ℕ) (d : Pair A) → i < length fs → t (get_or fs i d).0 ≡ true → ((k : ℕ) → k < i → t (get_or fs k d).0 ≡ false) → set_value_at i w fs ≡ set_value t fs w
  set_first t w [] i d within passes none = refl
  set_first t w (f ∷ fs) zero d within passes none = sym (ap (λ b. cond b ((f.0, w) ∷ fs) (f ∷ set_value t fs w)) passes)
  set_first t w (f ∷ fs) (suc i) d within passes none =
      ap (λ gs. f ∷ gs) (set_first t w fs i d (omega arith) passes (λ k h. none (suc k) (omega arith))) ∙ sym (ap (λ b. cond b ((f.0, w) ∷ fs) (f ∷ set_value t fs w)) (none 0 (omega arith)))

  -- a write of a field's value, and a read of it
  pub set_at : (fs : List (Pair A)) (i : ℕ) (d : Pair A) (w : A) → i < length fs → set fs i ((get_or fs i d).0, w) ≡ set_value_at i w fs
  set_at [] i d w within = absurd (omega arith)
  set_at (f ∷ fs) zero d w within = refl
  set_at (f ∷ fs) (suc i) d w within = ap (λ gs. f ∷ gs) (set_at fs i d w (omega arith))

  pub read_at : (fs : List (Pair A)) (i : ℕ) (d : Pair A) → i < length fs → option_map (λ f. f.1) (slice_get fs i) ≡ Some (get_or fs i d).1
  read_at [] i d within = absurd (omega arith)
  read_at (f ∷ fs) zero d within = refl
  read_at (f ∷ fs) (suc i) d within = read_at fs i d (omega arith)

  -- the same, by the place that a scan gives
  module _ (key : List ℕ) (fs : List (Pair A)) where
    abbrev pub place : Option ℕ
    place = position (λ f. bytes_eq key f.0) fs

    pub value_at : (i : ℕ) (d : Pair A) → place ≡ Some i → field_value fs key ≡ Some (get_or fs i d).1
    value_at i d e = let p = position-Some (λ f. bytes_eq key f.0) fs i d e in lookup_first (bytes_eq key) fs i d p.0 p.1 p.2

    pub put_at : (v : A) (i : ℕ) (d : Pair A) → place ≡ Some i → with_field fs key v ≡ set fs i ((get_or fs i d).0, v)
    put_at v i d e = let p = position-Some (λ f. bytes_eq key f.0) fs i d e in put_first key v fs i d p.0 p.1 p.2

    pub value_nowhere : place ≡ None → field_value fs key ≡ None
    value_nowhere e = lookup_nowhere (bytes_eq key) fs 0 (sym (position_from-zero (λ f. bytes_eq key f.0) fs) ∙ e)

    pub put_last : (v : A) → place ≡ None → with_field fs key v ≡ fs ++ (key, v) ∷ []
    put_last v e = put_nowhere key v fs 0 (sym (position_from-zero (λ f. bytes_eq key f.0) fs) ∙ e)

    is_there : (d : Pair A) (o : Option ℕ) → place ≡ o → is_some o ≡ is_some (field_value fs key)
    is_there d None e = ap is_some (sym (value_nowhere e))
    is_there d (Some i) e = ap is_some (sym (value_at i d e))

  pub set_placed : (key : List ℕ) (fs : List (Pair A)) (w : A) (i : ℕ) → place key fs ≡ Some i → set_value_at i w fs ≡ set_value (bytes_eq key) fs w
  set_placed key [] w i e = refl
  set_placed key (f ∷ fs) w i e = let p = position-Some (λ g. bytes_eq key g.0) (f ∷ fs) i f e in set_first (bytes_eq key) w (f ∷ fs) i f p.0 p.1 p.2

  pub read_placed : (key : List ℕ) (fs : List (Pair A)) (i : ℕ) → place key fs ≡ Some i → field_value fs key ≡ option_map (λ f. f.1) (slice_get fs i)
  read_placed key [] i e = refl
  read_placed key (f ∷ fs) i e = value_at key (f ∷ fs) i f e ∙ sym (read_at (f ∷ fs) i f (position-Some (λ g. bytes_eq key g.0) (f ∷ fs) i f e).0)

  pub there_if_value : (key : List ℕ) (fs : List (Pair A)) → is_some (position (λ f. bytes_eq key f.0) fs) ≡ is_some (field_value fs key)
  there_if_value key [] = refl
  there_if_value key (f ∷ fs) = is_there key (f ∷ fs) f _ refl

  -- the keys stay, or the key is a new one at the end
  pub keys_after : (key : List ℕ) (v : A) (fs : List (Pair A)) → keys_of (with_field fs key v) ≡ cond (list_any (bytes_eq key) (keys_of fs)) (keys_of fs) (keys_of fs ++ key ∷ [])
  keys_after key v [] = refl
  keys_after key v (f ∷ fs) = one (bytes_eq key f.0) (keys_after key v fs)
    where
      deeper : (b : Bool) → f.0 ∷ cond b (keys_of fs) (keys_of fs ++ key ∷ []) ≡ cond b (f.0 ∷ keys_of fs) (f.0 ∷ (keys_of fs ++ key ∷ []))
      deeper true = refl
      deeper false = refl

      one : (b : Bool) → keys_of (with_field fs key v) ≡ cond (list_any (bytes_eq key) (keys_of fs)) (keys_of fs) (keys_of fs ++ key ∷ []) → keys_of (cond b ((f.0, v) ∷ fs) (f ∷ with_field fs key v)) ≡ cond (b || list_any (bytes_eq key) (keys_of fs)) (f.0 ∷ keys_of fs) (f.0 ∷ (keys_of fs ++ key ∷ []))
      one true rest = refl
      one false rest = ap (λ ks. f.0 ∷ ks) rest ∙ deeper (list_any (bytes_eq key) (keys_of fs))

  pub distinct_after : (key : List ℕ) (v : A) (fs : List (Pair A)) → HasDistinctKeys fs → HasDistinctKeys (with_field fs key v)
  distinct_after key v fs distinct = subst (IsDistinct bytes_eq) (sym (keys_after key v fs)) (either (list_any (bytes_eq key) (keys_of fs)) refl)
    where
      either : (b : Bool) → list_any (bytes_eq key) (keys_of fs) ≡ b → IsDistinct bytes_eq (cond b (keys_of fs) (keys_of fs ++ key ∷ []))
      either true e = distinct
      either false e = IsDistinct-push nat_list_eq_equiv (keys_of fs) key distinct e
