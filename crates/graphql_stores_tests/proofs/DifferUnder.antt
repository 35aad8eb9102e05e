-- Objects of one key whose scalars are not equal differ under that key, and nowhere else.
use Rattle.std.proofs.Common.{◌≡◌, Bool, true, false, List, [], ◌∷◌, Option, Some, None, cond, ap, sym, subst, refl, ◌∙◌, Result, Ok, Err}
use Rattle.std.specs.Str.{bytes_eq}
use Rattle.std.proofs.lemmas.Slice.Eq.{bytes_eq-Decides}
use Rattle.graphql_names.specs.Names.{Bytes}
use Rattle.std.specs.List.{All, IsDistinct}
use Rattle.std.specs.Map.{values_of}
use Rattle.std.proofs.lemmas.List.Elements.{All-nil}
use Rattle.graphql_output_values.specs.DistinctKeys.{HasDistinctKeysThroughout, ObjectHasDistinctKeysThroughout}
use Rattle.graphql_output_values.specs.DistinctLaws.{DistinctByForms}
use Rattle.graphql_output_values.specs.Objects.{HasDistinctKeys, Pair, field_value}
use Rattle.graphql_output_values.specs.EqualityEquations.{out_list, out_object, out_scalar}
use Rattle.graphql_output_values.specs.declared.object.Object.{Object}
use Rattle.graphql_output_values.specs.declared.value.Value.{Value, out-Value}
use Rattle.graphql_output_values.specs.declared.value.Value.TheOpen.{Value-F}
use Rattle.graphql_output_values.specs.declared.value.Value.TheVariants as value
use Rattle.graphql_joined_data.specs.Differences.{Apart, DifferAt, here, in_items, under_key}
use Rattle.graphql_joined_data.specs.Joining.{AreOneWhereEqual, HaveNoJoin, JoinsOrDiffers}
use Rattle.graphql_joined_data.specs.Laws.{DifferingHaveNoJoin}
use Rattle.graphql_joined_data.specs.declared.join_fault.JoinFault.{JoinFault}
use Rattle.graphql_joined_data.specs.declared.join_fault.JoinFault.TheVariants as fault
use Rattle.graphql_stores_tests.specs.Joined.{TellsKey, object_with}

abbrev Layer : Type 0 → Type 0
Layer S = Value-F S (Value S) (Object S)

module _ {S : Type 0} where
  abbrev one_field : Bytes → S → List (Pair (Value S))
  one_field key s = (key, value.Scalar s) ∷ []

  abbrev one_of : Bytes → S → Object S
  one_of key s = record { fields = one_field key s }

  found : (key : Bytes) (s : S) → field_value (one_field key s) key ≡ Some (value.Scalar s)
  found key s =
      let q : Option (Value S) = Some (value.Scalar s) in
      ap (λ b. cond b q None) ((bytes_eq-Decides key key).1 refl)

  only : (k key : Bytes) (v x : Value S) (q : Bool) → bytes_eq k key ≡ q → cond q (Some v) None ≡ Some x → (k ≡ key) × (v ≡ x)
  only k key v x true is h =
      let same : v ≡ x = cc in
      ((bytes_eq-Decides k key).0 is, same)
  only k key v x false is h = absurd (cc)

  of-object : (p q : Object S) → ◌≡◌ {A = Layer S} (Value-F.Object p) (Value-F.Object q) → p.fields ≡ q.fields
  of-object p q e =
      let is : p ≡ q = cc in
      ap (λ (o : Object S). o.fields) is

  list-object : (xs : List (Value S)) (p : Object S) → ◌≡◌ {A = Layer S} (Value-F.List xs) (Value-F.Object p) → ⊥
  list-object xs p e = absurd (cc)

  list-scalar : (xs : List (Value S)) (s : S) → ◌≡◌ {A = Layer S} (Value-F.List xs) (Value-F.Scalar s) → ⊥
  list-scalar xs s e = absurd (cc)

  object-scalar : (p : Object S) (s : S) → ◌≡◌ {A = Layer S} (Value-F.Object p) (Value-F.Scalar s) → ⊥
  object-scalar p s e = absurd (cc)

  module _ (same : S → S → Bool) where
    apart-from : (x y : Value S) (l m : Layer S) → out-Value S x ≡ l → out-Value S y ≡ m → Apart same (out-Value S x) (out-Value S y) → Apart same l m
    apart-from x y l m e f h = subst (Apart same l) f (subst (λ k. Apart same k (out-Value S y)) e h)

    -- scalars differ themselves
    scalars-here : (path : List Bytes) (v w : Value S) → DifferAt same path v w → (s : S) → out-Value S v ≡ Value-F.Scalar s → path ≡ []
    scalars-here _ _ _ (here x y h) s e = refl
    scalars-here _ _ _ (in_items path xs ys place x y g i d) s e = absurd (list-scalar xs s (sym (out_list xs) ∙ e))
    scalars-here _ _ _ (under_key path key xs ys x y g i d) s e =
        let p : Object S = record { fields = xs } in
        absurd (object-scalar p s (sym (out_object p) ∙ e))

    -- objects of one key with scalars differ under it
    objects-under : (path : List Bytes) (v w : Value S) → DifferAt same path v w → (key : Bytes) (s t : S)
        → out-Value S v ≡ Value-F.Object (one_of key s) → out-Value S w ≡ Value-F.Object (one_of key t) → path ≡ key ∷ []
    objects-under _ _ _ (here x y h) key s t e f =
        absurd (apart-from x y (Value-F.Object (one_of key s)) (Value-F.Object (one_of key t)) e f h)
    objects-under _ _ _ (in_items path xs ys place x y g i d) key s t e f =
        absurd (list-object xs (one_of key s) (sym (out_list xs) ∙ e))
    objects-under _ _ _ (under_key path k xs ys x y g i d) key s t e f =
        let p : Object S = record { fields = xs } in
        let fields = of-object p (one_of key s) (sym (out_object p) ∙ e) in
        let first : field_value (one_field key s) k ≡ Some x =
        subst (λ (zs : List (Pair (Value S))). field_value zs k ≡ Some x) fields g in
        let has = only k key (value.Scalar s) x (bytes_eq k key) refl first in
        let nothing = scalars-here path x y d s (ap (out-Value S) (sym has.1) ∙ out_scalar s) in
        λ j. has.0 j ∷ nothing j

    differ : (key : Bytes) (s t : S) → same s t ≡ false → DifferAt same (key ∷ []) (object_with key s) (object_with key t)
    differ key s t unlike =
        let x : Value S = value.Scalar s in
        let y : Value S = value.Scalar t in
        under_key [] key (one_field key s) (one_field key t) x y (found key s) (found key t)
        (here x y
        (subst (λ k. Apart same k (out-Value S y)) (sym (out_scalar s))
        (subst (Apart same (Value-F.Scalar s)) (sym (out_scalar t)) unlike)))

    module _ (law : DifferingHaveNoJoin same) (key : Bytes) (s t : S) (unlike : same s t ≡ false) where
      pub no-join : HaveNoJoin (object_with key s) (object_with key t)
      no-join = law (key ∷ []) (object_with key s) (object_with key t) (differ key s t unlike)

      pub tells-key : AreOneWhereEqual same → (first second : Value S) → first ≡ object_with key s → second ≡ object_with key t
          → (result : Result (Value S) JoinFault) → JoinsOrDiffers same first second result → TellsKey key result
      tells-key one first second is other result h =
          told result (subst (λ v. JoinsOrDiffers same v (object_with key t) result) is
          (subst (λ v. JoinsOrDiffers same first v result) other h))
        where
          told : (r : Result (Value S) JoinFault) → JoinsOrDiffers same (object_with key s) (object_with key t) r → TellsKey key r
          told (Ok joined) j = no-join joined (j one)
          told (Err (fault.Disagree path)) j =
              objects-under path (object_with key s) (object_with key t) j.0 key s t (out_object (one_of key s)) (out_object (one_of key t))
          told (Err fault.Memory) j = tt

-- an object to which one scalar is added
module _ {S : Type 0} where
  no-fields : (o : Object S) → o.fields ≡ [] → ObjectHasDistinctKeysThroughout o
  unfolding IsDistinct
  no-fields o none =
      subst (λ (fs : List (Pair (Value S))). HasDistinctKeys fs × All HasDistinctKeysThroughout (values_of fs)) (sym none)
      (tt, All-nil HasDistinctKeysThroughout)

  pub made-distinct : DistinctByForms S → (old new : Object S) (s : S) → old.fields ≡ []
      → (ObjectHasDistinctKeysThroughout old → HasDistinctKeysThroughout (value.Scalar s) → ObjectHasDistinctKeysThroughout new)
      → HasDistinctKeysThroughout (value.Object new)
  made-distinct law old new s none kept = (law.3 new).1 (kept (no-fields old none) (law.1 s))
