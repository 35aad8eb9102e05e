-- Data that differ somewhere have no join.
use Rattle.std.proofs.Common.{◌≡◌, ℕ, zero, suc, Bool, true, false, not, cond, List, [], ◌∷◌, length, Some, None, ap, sym, subst, refl, ◌∙◌}
use Rattle.std.specs.Prelude.{slice_get}
use Rattle.std.specs.Str.{bytes_eq}
use Rattle.std.proofs.lemmas.Slice.Eq.{bytes_eq-Decides}
use Rattle.graphql_names.specs.Names.{Bytes}
use Rattle.graphql_output_values.specs.Objects.{Pair, field_value}
use Rattle.graphql_output_values.specs.EqualityEquations.{out_null, out_scalar, out_list, out_object}
use Rattle.graphql_output_values.specs.declared.object.Object.{Object}
use Rattle.graphql_output_values.specs.declared.value.Value.{Value, out-Value}
use Rattle.graphql_output_values.specs.declared.value.Value.TheOpen.{Value-F}
use Rattle.graphql_output_values.specs.declared.value.Value.TheVariants as value
use Rattle.graphql_joins.specs.Joins.{IsJoin, null_first, null_second, same_scalar, lists, objects, ItemsJoin, no_items, more_items, MembersJoin, new_keys, key_of_both, key_of_first, without}
use Rattle.graphql_joined_data.specs.Differences.{Apart, DifferAt, here, in_items, under_key}
use Rattle.graphql_joined_data.specs.Laws.{DifferingHaveNoJoin}

exact : (k j : Bytes) → bytes_eq k j ≡ true → k ≡ j
exact k j = (bytes_eq-Decides k j).0

-- what stands under another key stays
pub without-other : {A : Type 0} (k j : Bytes) (ys : List (Pair A)) → bytes_eq j k ≡ false → field_value (without k ys) j ≡ field_value ys j
without-other k j [] e = refl
without-other {A} k j (m ∷ ys) e = either (bytes_eq m.0 k) refl (without-other k j ys e)
  where
    either : (q : Bool) → bytes_eq m.0 k ≡ q → field_value (without k ys) j ≡ field_value ys j
        → field_value (cond (not q) (m ∷ without k ys) (without k ys)) j ≡ cond (bytes_eq j m.0) (Some m.1) (field_value ys j)
    either true is rest = rest ∙ ap (λ b. cond b (Some m.1) (field_value ys j)) (sym (ap (bytes_eq j) (exact m.0 k is) ∙ e))
    either false is rest = ap (λ o. cond (bytes_eq j m.0) (Some m.1) o) rest

abbrev Layer : Type 0 → Type 0
Layer S = Value-F S (Value S) (Object S)

module _ {S : Type 0} where
  -- ---- the parts of a join

  abbrev Parts : Layer S → Layer S → Type 0
  Parts (Value-F.List xs) (Value-F.List ys) = (zs : List (Value S)) × ItemsJoin xs ys zs
  Parts (Value-F.Object p) (Value-F.Object q) = (zs : List (Pair (Value S))) × MembersJoin p.fields q.fields zs
  Parts x y = Unit {0}

  parts-null : (x : Layer S) → Parts x Value-F.Null
  parts-null Value-F.Null = tt
  parts-null (Value-F.Scalar s) = tt
  parts-null (Value-F.List xs) = tt
  parts-null (Value-F.Object p) = tt

  parts-at : (x y : Value S) (l m : Layer S) → out-Value S x ≡ l → out-Value S y ≡ m → Parts l m → Parts (out-Value S x) (out-Value S y)
  parts-at x y l m e f h = subst (λ k. Parts k (out-Value S y)) (sym e) (subst (Parts l) (sym f) h)

  parts-from : (x y : Value S) (l m : Layer S) → out-Value S x ≡ l → out-Value S y ≡ m → Parts (out-Value S x) (out-Value S y) → Parts l m
  parts-from x y l m e f h = subst (Parts l) f (subst (λ k. Parts k (out-Value S y)) e h)

  parts : (x y z : Value S) → IsJoin x y z → Parts (out-Value S x) (out-Value S y)
  parts _ _ _ (null_first y) = parts-at value.Null y Value-F.Null (out-Value S y) out_null refl tt
  parts _ _ _ (null_second x) = parts-at x value.Null (out-Value S x) Value-F.Null refl out_null (parts-null (out-Value S x))
  parts _ _ _ (same_scalar s) = parts-at (value.Scalar s) (value.Scalar s) (Value-F.Scalar s) (Value-F.Scalar s) (out_scalar s) (out_scalar s) tt
  parts _ _ _ (lists xs ys zs h) = parts-at (value.List xs) (value.List ys) (Value-F.List xs) (Value-F.List ys) (out_list xs) (out_list ys) (zs, h)
  parts _ _ _ (objects xs ys zs h) =
      let p : Object S = record { fields = xs } in
      let q : Object S = record { fields = ys } in
      parts-at (value.Object p) (value.Object q) (Value-F.Object p) (Value-F.Object q) (out_object p) (out_object q) (zs, h)

  -- items of one place have a join, and so have values under a key of both
  items-long : (xs ys zs : List (Value S)) → ItemsJoin xs ys zs → length xs ≡ length ys
  items-long _ _ _ no_items = refl
  items-long _ _ _ (more_items x y z xs ys zs j rest) = ap suc (items-long xs ys zs rest)

  abbrev HaveJoin : Value S → Value S → Type 0
  HaveJoin x y = (z : Value S) × IsJoin x y z

  items-at : (xs ys zs : List (Value S)) → ItemsJoin xs ys zs → (place : ℕ) (x y : Value S) → slice_get xs place ≡ Some x → slice_get ys place ≡ Some y → HaveJoin x y
  items-at _ _ _ no_items zero x y e f = absurd (cc)
  items-at _ _ _ no_items (suc i) x y e f = absurd (cc)
  items-at _ _ _ (more_items u v w xs ys zs j rest) zero x y e f =
      let left : u ≡ x = cc in
      let right : v ≡ y = cc in
      (w, subst (λ t. IsJoin x t w) right (subst (λ t. IsJoin t v w) left j))
  items-at _ _ _ (more_items u v w xs ys zs j rest) (suc i) x y e f = items-at xs ys zs rest i x y e f

  members-at : (xs ys zs : List (Pair (Value S))) → MembersJoin xs ys zs → (key : Bytes) (x y : Value S) → field_value xs key ≡ Some x → field_value ys key ≡ Some y → HaveJoin x y
  members-at _ _ _ (new_keys ys) key x y e f = absurd (cc)
  members-at _ _ _ (key_of_both k u v w xs ys zs g j rest) key x y e f =
      either (bytes_eq key k) refl e (λ is h. members-at xs (without k ys) zs rest key x y h (without-other k key ys is ∙ f))
    where
      either : (q : Bool) → bytes_eq key k ≡ q → cond q (Some u) (field_value xs key) ≡ Some x
          → (bytes_eq key k ≡ false → field_value xs key ≡ Some x → HaveJoin x y) → HaveJoin x y
      either true is h behind =
          let left : u ≡ x = cc in
          let there : Some v ≡ Some y = sym g ∙ ap (field_value ys) (sym (exact key k is)) ∙ f in
          let right : v ≡ y = cc in
          (w, subst (λ t. IsJoin x t w) right (subst (λ t. IsJoin t v w) left j))
      either false is h behind = behind is h
  members-at _ _ _ (key_of_first k u xs ys zs g rest) key x y e f = either (bytes_eq key k) refl e (λ h. members-at xs ys zs rest key x y h f)
    where
      either : (q : Bool) → bytes_eq key k ≡ q → cond q (Some u) (field_value xs key) ≡ Some x → (field_value xs key ≡ Some x → HaveJoin x y) → HaveJoin x y
      either true is h behind =
          let bad : None ≡ Some y = sym g ∙ ap (field_value ys) (sym (exact key k is)) ∙ f in
          absurd (cc)
      either false is h behind = behind h

  -- ---- what differs

  module _ (same : S → S → Bool) (reflexive : (s : S) → same s s ≡ true) where
    not-null : (x : Layer S) → Apart same x Value-F.Null → ⊥
    not-null Value-F.Null h = h
    not-null (Value-F.Scalar s) h = h
    not-null (Value-F.List xs) h = h
    not-null (Value-F.Object p) h = h

    apart-from : (x y : Value S) (l m : Layer S) → out-Value S x ≡ l → out-Value S y ≡ m → Apart same (out-Value S x) (out-Value S y) → Apart same l m
    apart-from x y l m e f h = subst (Apart same l) f (subst (λ k. Apart same k (out-Value S y)) e h)

    not-apart : (x y z : Value S) → IsJoin x y z → Apart same (out-Value S x) (out-Value S y) → ⊥
    not-apart _ _ _ (null_first y) h = apart-from value.Null y Value-F.Null (out-Value S y) out_null refl h
    not-apart _ _ _ (null_second x) h = not-null (out-Value S x) (apart-from x value.Null (out-Value S x) Value-F.Null refl out_null h)
    not-apart _ _ _ (same_scalar s) h =
        let unlike : same s s ≡ false = apart-from (value.Scalar s) (value.Scalar s) (Value-F.Scalar s) (Value-F.Scalar s) (out_scalar s) (out_scalar s) h in
        let alike : same s s ≡ true = reflexive s in
        absurd (cc (unlike, alike))
    not-apart _ _ _ (lists xs ys zs j) h = apart-from (value.List xs) (value.List ys) (Value-F.List xs) (Value-F.List ys) (out_list xs) (out_list ys) h (items-long xs ys zs j)
    not-apart _ _ _ (objects xs ys zs j) h =
        let p : Object S = record { fields = xs } in
        let q : Object S = record { fields = ys } in
        apart-from (value.Object p) (value.Object q) (Value-F.Object p) (Value-F.Object q) (out_object p) (out_object q) h

    pub differing : (path : List Bytes) (x y : Value S) → DifferAt same path x y → (z : Value S) → IsJoin x y z → ⊥
    differing _ _ _ (here x y h) z j = not-apart x y z j h
    differing _ _ _ (in_items path xs ys place x y e f d) z j =
        let inner = parts-from (value.List xs) (value.List ys) (Value-F.List xs) (Value-F.List ys) (out_list xs) (out_list ys) (parts (value.List xs) (value.List ys) z j) in
        let both = items-at xs ys inner.0 inner.1 place x y e f in
        differing path x y d both.0 both.1
    differing _ _ _ (under_key path key xs ys x y e f d) z j =
        let p : Object S = record { fields = xs } in
        let q : Object S = record { fields = ys } in
        let inner = parts-from (value.Object p) (value.Object q) (Value-F.Object p) (Value-F.Object q) (out_object p) (out_object q) (parts (value.Object p) (value.Object q) z j) in
        let both = members-at xs ys inner.0 inner.1 key x y e f in
        differing path x y d both.0 both.1

pub differing-have-no-join : {S : Type 0} (same : S → S → Bool) → ((s : S) → same s s ≡ true) → DifferingHaveNoJoin same
differing-have-no-join same reflexive path x y d z j = differing same reflexive path x y d z j
