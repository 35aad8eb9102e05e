-- The equality of values is symmetric and transitive where that of scalars is, and reflexive where
-- that is.
use Rattle.std.proofs.Common.{◌≡◌, Bool, true, false, List, map, ap, sym, subst, refl, ◌∙◌}
use Rattle.std.specs.Cmp.{IsEquivalence, IsPartialEquivalence, equiv, partial_equiv_from_equiv}
use Rattle.graphql_output_values.specs.Equality.{items_equal, forms_equal, equal, equal_objects}
use Rattle.graphql_output_values.specs.declared.object.Object.{Object}
use Rattle.graphql_output_values.specs.declared.value.Value.{Value}
use Rattle.graphql_output_values.specs.declared.value.Value.TheOpen.{Value-F}
use Rattle.graphql_output_values.specs.declared.value.Value.TheVariants as value
use Rattle.graphql_output_values.specs.EqualityEquations.{
  out_null,
  out_scalar,
  out_list,
  out_object,
  null_against,
  scalar_against,
  list_against,
  object_against,
  equal_nulls,
  equal_scalars,
  equal_lists,
  equal_as_objects,
}
use Rattle.graphql_output_values.specs.EqualityLaws.{Flips, Carries, IsItself, fields_symm}
use Rattle.graphql_output_values.specs.EqualityLaws.{fields_trans, fields_refl, items_symm}
use Rattle.graphql_output_values.specs.EqualityLaws.{items_trans, items_refl}
use Rattle.graphql_output_values.specs.ValueInduction.{value_ind}

-- nothing is both true and false
unlike : {P : Type 0} {b : Bool} → b ≡ true → b ≡ false → P
unlike t f = absurd (cc (t, f))

module _ {S : Type 0} (same : S → S → Bool) where
  abbrev E : Value S → Value S → Bool
  E = equal same

  -- two of different forms
  null_scalar : (s : S) → E value.Null (value.Scalar s) ≡ false
  null_scalar s =
      null_against same (value.Scalar s) ∙ ap (forms_equal same Value-F.Null) (out_scalar s)

  null_list : (xs : List (Value S)) → E value.Null (value.List xs) ≡ false
  null_list xs =
      null_against same (value.List xs) ∙ ap (forms_equal same Value-F.Null) (out_list xs)

  null_object : (o : Object S) → E value.Null (value.Object o) ≡ false
  null_object o =
      null_against same (value.Object o) ∙ ap (forms_equal same Value-F.Null) (out_object o)

  scalar_null : (s : S) → E (value.Scalar s) value.Null ≡ false
  scalar_null s =
      scalar_against same s value.Null ∙ ap (forms_equal same (Value-F.Scalar s)) out_null

  scalar_list : (s : S) (xs : List (Value S)) → E (value.Scalar s) (value.List xs) ≡ false
  scalar_list s xs =
      scalar_against same s (value.List xs) ∙ ap (forms_equal same (Value-F.Scalar s)) (out_list xs)

  scalar_object : (s : S) (o : Object S) → E (value.Scalar s) (value.Object o) ≡ false
  scalar_object s o = scalar_against same s (value.Object o)
      ∙ ap (forms_equal same (Value-F.Scalar s)) (out_object o)

  list_null : (xs : List (Value S)) → E (value.List xs) value.Null ≡ false
  list_null xs =
      list_against same xs value.Null ∙ ap (forms_equal same (Value-F.List (map E xs))) out_null

  list_scalar : (xs : List (Value S)) (s : S) → E (value.List xs) (value.Scalar s) ≡ false
  list_scalar xs s = list_against same xs (value.Scalar s)
      ∙ ap (forms_equal same (Value-F.List (map E xs))) (out_scalar s)

  list_object : (xs : List (Value S)) (o : Object S) → E (value.List xs) (value.Object o) ≡ false
  list_object xs o = list_against same xs (value.Object o)
      ∙ ap (forms_equal same (Value-F.List (map E xs))) (out_object o)

  object_null : (o : Object S) → E (value.Object o) value.Null ≡ false
  object_null o = object_against same o value.Null
      ∙ ap (forms_equal same (Value-F.Object (equal_objects same o))) out_null

  object_scalar : (o : Object S) (s : S) → E (value.Object o) (value.Scalar s) ≡ false
  object_scalar o s = object_against same o (value.Scalar s)
      ∙ ap (forms_equal same (Value-F.Object (equal_objects same o))) (out_scalar s)

  object_list : (o : Object S) (xs : List (Value S)) → E (value.Object o) (value.List xs) ≡ false
  object_list o xs = object_against same o (value.List xs)
      ∙ ap (forms_equal same (Value-F.Object (equal_objects same o))) (out_list xs)

  -- a value that is equal to one of a form has that form, and is equal in what it holds
  null_inv : (w : Value S) → E value.Null w ≡ true → w ≡ value.Null
  null_inv = value_ind (λ w. E value.Null w ≡ true → w ≡ value.Null)
      (λ h. refl)
      (λ s h. unlike h (null_scalar s))
      (λ xs all h. unlike h (null_list xs))
      (λ o all h. unlike h (null_object o))

  scalar_inv : (s : S) (w : Value S) → E (value.Scalar s) w ≡ true
      → (t : S)
      × (w ≡ value.Scalar t)
      × (same s t ≡ true)
  scalar_inv s = value_ind
      (λ w. E (value.Scalar s) w ≡ true → (t : S) × (w ≡ value.Scalar t) × (same s t ≡ true))
      (λ h. unlike h (scalar_null s))
      (λ t h. (t, refl, sym (equal_scalars same s t) ∙ h))
      (λ xs all h. unlike h (scalar_list s xs))
      (λ o all h. unlike h (scalar_object s o))

  list_inv : (xs : List (Value S)) (w : Value S) → E (value.List xs) w ≡ true
      → (ys : List (Value S)) × (w ≡ value.List ys) × (items_equal E xs ys ≡ true)
  list_inv xs = value_ind (λ w. E (value.List xs) w ≡ true
      → (ys : List (Value S))
      × (w ≡ value.List ys)
      × (items_equal E xs ys ≡ true))
      (λ h. unlike h (list_null xs))
      (λ t h. unlike h (list_scalar xs t))
      (λ ys all h. (ys, refl, sym (equal_lists same xs ys) ∙ h))
      (λ o all h. unlike h (list_object xs o))

  object_inv : (o : Object S) (w : Value S) → E (value.Object o) w ≡ true
      → (p : Object S)
      × (w ≡ value.Object p)
      × (equal_objects same o p ≡ true)
  object_inv o = value_ind (λ w. E (value.Object o) w ≡ true
      → (p : Object S)
      × (w ≡ value.Object p)
      × (equal_objects same o p ≡ true))
      (λ h. unlike h (object_null o))
      (λ t h. unlike h (object_scalar o t))
      (λ ys all h. unlike h (object_list o ys))
      (λ p all h. (p, refl, sym (equal_as_objects same o p) ∙ h))

  module _ (per : IsPartialEquivalence same) where
    pub equal_symm : (v : Value S) → Flips E v
    equal_symm = value_ind (Flips E)
        (value_ind (λ w. E value.Null w ≡ E w value.Null)
        refl
        (λ t. null_scalar t ∙ sym (scalar_null t))
        (λ ys all. null_list ys ∙ sym (list_null ys))
        (λ p all. null_object p ∙ sym (object_null p)))
        (λ s. value_ind (λ w. E (value.Scalar s) w ≡ E w (value.Scalar s))
        (scalar_null s ∙ sym (null_scalar s))
        (λ t. equal_scalars same s t ∙ per.symm s t ∙ sym (equal_scalars same t s))
        (λ ys all. scalar_list s ys ∙ sym (list_scalar ys s))
        (λ p all. scalar_object s p ∙ sym (object_scalar p s)))
        (λ xs flips. value_ind (λ w. E (value.List xs) w ≡ E w (value.List xs))
        (list_null xs ∙ sym (null_list xs))
        (λ t. list_scalar xs t ∙ sym (scalar_list t xs))
        (λ ys all. equal_lists same xs ys ∙ items_symm E xs ys flips ∙ sym (equal_lists same ys xs))
        (λ p all. list_object xs p ∙ sym (object_list p xs)))
        (λ o flips. value_ind (λ w. E (value.Object o) w ≡ E w (value.Object o))
        (object_null o ∙ sym (null_object o))
        (λ t. object_scalar o t ∙ sym (scalar_object t o))
        (λ ys all. object_list o ys ∙ sym (list_object ys o))
        (λ p all. equal_as_objects same o p ∙ fields_symm E o.fields p.fields flips
        ∙ sym (equal_as_objects same p o)))

    pub equal_trans : (v : Value S) → Carries E v
    equal_trans = value_ind (Carries E)
        (λ w u h k. let a = null_inv w h in subst (λ z. E z u ≡ true) a k)
        (λ s w u h k.
        let a = scalar_inv s w h in
        let b = scalar_inv a.0 u (subst (λ z. E z u ≡ true) a.1 k) in
        subst (λ z. E (value.Scalar s) z ≡ true) (sym b.1)
        (equal_scalars same s b.0 ∙ per.trans s a.0 b.0 a.2 b.2))
        (λ xs carries w u h k.
        let a = list_inv xs w h in
        let b = list_inv a.0 u (subst (λ z. E z u ≡ true) a.1 k) in
        subst (λ z. E (value.List xs) z ≡ true) (sym b.1)
        (equal_lists same xs b.0 ∙ items_trans E xs a.0 b.0 carries a.2 b.2))
        (λ o carries w u h k.
        let a = object_inv o w h in
        let b = object_inv a.0 u (subst (λ z. E z u ≡ true) a.1 k) in
        subst (λ z. E (value.Object o) z ≡ true) (sym b.1) (equal_as_objects same o b.0
        ∙ fields_trans E o.fields a.0.fields b.0.fields carries a.2 b.2))

    pub equal_per : IsPartialEquivalence (equal same)
    equal_per = record { symm = equal_symm; trans = equal_trans }

    pub objects_per : IsPartialEquivalence (equal_objects same)
    objects_per = record {
      symm = λ o p. fields_symm E o.fields p.fields (λ k d h. equal_symm _);
      trans = λ o p q. fields_trans E o.fields p.fields q.fields (λ k d h. equal_trans _);
    }

  module _ (itself : (s : S) → same s s ≡ true) where
    pub equal_refl : (v : Value S) → IsItself E v
    equal_refl = value_ind (IsItself E)
        (equal_nulls same)
        (λ s. equal_scalars same s s ∙ itself s)
        (λ xs all. equal_lists same xs xs ∙ items_refl E xs all)
        (λ o all. equal_as_objects same o o ∙ fields_refl E o.fields all)

    pub objects_refl : (o : Object S) → equal_objects same o o ≡ true
    objects_refl o = fields_refl E o.fields (λ k d h. equal_refl _)

  pub equal_equiv : IsEquivalence same → IsEquivalence (equal same)
  equal_equiv e = equiv (equal_per (partial_equiv_from_equiv e)) (equal_refl e.refl)

  pub objects_equiv : IsEquivalence same → IsEquivalence (equal_objects same)
  objects_equiv e = equiv (objects_per (partial_equiv_from_equiv e)) (objects_refl e.refl)
