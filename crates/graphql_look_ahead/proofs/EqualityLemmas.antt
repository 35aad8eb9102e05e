-- The equality of values of look-ahead by their forms, and of lists by their first items.
use Rattle.std.proofs.Common.{◌≡◌, ℕ, ◌+◌, Bool, true, false, ◌&&◌, List, [], ◌∷◌, ap, refl, ◌∙◌}
use Rattle.std.specs.Borrow.{Bor}
use Rattle.std.specs.Cmp.Lexicographic.{pointwise}
use Rattle.std.specs.List.{sum_by}
use Rattle.std.specs.Str.{bytes_eq}
use Rattle.std.proofs.lemmas.List.Sums.{sum_by-cons}
use Rattle.graphql_values.specs.InputValues.{Placed, Pair}
use Rattle.graphql_values.specs.declared.input_value.InputValue.{InputValue, out-InputValue}
use Rattle.graphql_values.specs.declared.input_value.InputValue.TheOpen.{InputValue-F}
use Rattle.graphql_values.specs.declared.input_value.InputValue.TheVariants as value
use Rattle.graphql_look_ahead.specs.Equality.{equal, same_field, same_form, same_item, same_span}
use Rattle.graphql_look_ahead.specs.EqualityLaws.{equal_is}
use Rattle.graphql_look_ahead.specs.Values.{fields_told, items_told, value_shown}
use Rattle.graphql_look_ahead.specs.declared.list.LookAheadList.{LookAheadList}
use Rattle.graphql_look_ahead.specs.declared.object.LookAheadObject.{LookAheadObject}
use Rattle.graphql_look_ahead.specs.declared.value.LookAheadValue.{LookAheadValue}
use Rattle.graphql_look_ahead.specs.declared.value.LookAheadValue.TheVariants as look_ahead

module _ {X Y : Type 0} (E : X → Y → Bool) where
  pub none_left : (xs : List X) (ys : List Y) → xs ≡ [] → ys ≡ [] → pointwise E xs ys ≡ true
  none_left xs ys none no_other = λ i. pointwise E (none i) (no_other i)

  pub more_left : (xs : List X) (ys others : List Y) (y : Y) → xs ≡ [] → ys ≡ y ∷ others → pointwise E xs ys ≡ false
  more_left xs ys others y none more = λ i. pointwise E (none i) (more i)

  pub fewer_left : (xs rest : List X) (ys : List Y) (x : X) → xs ≡ x ∷ rest → ys ≡ [] → pointwise E xs ys ≡ false
  fewer_left xs rest ys x more none = λ i. pointwise E (more i) (none i)

  pub first_alike : (xs rest : List X) (ys others : List Y) (x : X) (y : Y) → xs ≡ x ∷ rest → ys ≡ y ∷ others → E x y ≡ true → pointwise E xs ys ≡ pointwise E rest others
  first_alike xs rest ys others x y mine theirs alike = (λ i. pointwise E (mine i) (theirs i)) ∙ ap (λ b. b && pointwise E rest others) alike

  pub first_apart : (xs rest : List X) (ys others : List Y) (x : X) (y : Y) → xs ≡ x ∷ rest → ys ≡ y ∷ others → E x y ≡ false → pointwise E xs ys ≡ false
  first_apart xs rest ys others x y mine theirs apart = (λ i. pointwise E (mine i) (theirs i)) ∙ ap (λ b. b && pointwise E rest others) apart

module _ {S : Type 0} where
  -- the layer of what a value tells
  abbrev pub layer_told : LookAheadValue S → InputValue-F S (InputValue S)
  layer_told look_ahead.Null = InputValue-F.Null
  layer_told (look_ahead.Scalar scalar) = InputValue-F.Scalar scalar.now
  layer_told (look_ahead.Enum name) = InputValue-F.Enum name.now
  layer_told (look_ahead.List list) = InputValue-F.List (items_told list)
  layer_told (look_ahead.Object object) = InputValue-F.Object (fields_told object)

  out_told : (v : LookAheadValue S) → out-InputValue S (value_shown v) ≡ layer_told v
  out_told look_ahead.Null = value.outs-Null
  out_told (look_ahead.Scalar scalar) = value.outs-Scalar scalar.now
  out_told (look_ahead.Enum name) = value.outs-Enum name.now
  out_told (look_ahead.List list) = value.outs-List (items_told list)
  out_told (look_ahead.Object object) = value.outs-Object (fields_told object)

module _ {S : Type 0} (scalars : S → S → Bool) where
  abbrev pub same_layer : LookAheadValue S → LookAheadValue S → Bool
  same_layer v w = same_form (equal scalars) scalars (layer_told v) (layer_told w)

  -- what values tell is equal where its layers are
  pub equal_told : (v w : LookAheadValue S) → equal scalars (value_shown v) (value_shown w) ≡ same_layer v w
  equal_told v w = equal_is scalars (value_shown v) (value_shown w) ∙ (λ i. same_form (equal scalars) scalars (out_told v i) (out_told w i))

  pub equal_forms : (v w mine theirs : LookAheadValue S) → v ≡ mine → w ≡ theirs → equal scalars (value_shown v) (value_shown w) ≡ same_layer mine theirs
  equal_forms v w mine theirs is other_is = equal_told v w ∙ (λ i. same_layer (is i) (other_is i))

  -- a value of one form against one of another
  pub not_null : (w : LookAheadValue S) → (w ≡ look_ahead.Null → ⊥) → same_layer look_ahead.Null w ≡ false
  not_null look_ahead.Null other = absurd (other refl)
  not_null (look_ahead.Scalar _) other = refl
  not_null (look_ahead.Enum _) other = refl
  not_null (look_ahead.List _) other = refl
  not_null (look_ahead.Object _) other = refl

  pub not_scalar : (s : Bor S) (w : LookAheadValue S) → ((t : Bor S) → w ≡ look_ahead.Scalar t → ⊥) → same_layer (look_ahead.Scalar s) w ≡ false
  not_scalar s look_ahead.Null other = refl
  not_scalar s (look_ahead.Scalar t) other = absurd (other t refl)
  not_scalar s (look_ahead.Enum _) other = refl
  not_scalar s (look_ahead.List _) other = refl
  not_scalar s (look_ahead.Object _) other = refl

  pub not_enum : (m : Bor (List ℕ)) (w : LookAheadValue S) → ((n : Bor (List ℕ)) → w ≡ look_ahead.Enum n → ⊥) → same_layer (look_ahead.Enum m) w ≡ false
  not_enum m look_ahead.Null other = refl
  not_enum m (look_ahead.Scalar _) other = refl
  not_enum m (look_ahead.Enum n) other = absurd (other n refl)
  not_enum m (look_ahead.List _) other = refl
  not_enum m (look_ahead.Object _) other = refl

  pub not_list : (l : LookAheadList S) (w : LookAheadValue S) → ((k : LookAheadList S) → w ≡ look_ahead.List k → ⊥) → same_layer (look_ahead.List l) w ≡ false
  not_list l look_ahead.Null other = refl
  not_list l (look_ahead.Scalar _) other = refl
  not_list l (look_ahead.Enum _) other = refl
  not_list l (look_ahead.List k) other = absurd (other k refl)
  not_list l (look_ahead.Object _) other = refl

  pub not_object : (o : LookAheadObject S) (w : LookAheadValue S) → ((p : LookAheadObject S) → w ≡ look_ahead.Object p → ⊥) → same_layer (look_ahead.Object o) w ≡ false
  not_object o look_ahead.Null other = refl
  not_object o (look_ahead.Scalar _) other = refl
  not_object o (look_ahead.Enum _) other = refl
  not_object o (look_ahead.List _) other = refl
  not_object o (look_ahead.Object p) other = absurd (other p refl)

pub counted : {X : Type 0} (f : X → ℕ) (xs rest : List X) (x : X) → xs ≡ x ∷ rest → sum_by f xs ≡ f x + sum_by f rest
counted f xs rest x is = ap (sum_by f) is ∙ sum_by-cons f x rest

pub elsewhere : {A B : Type 0} (E : A → B → Bool) (x : Placed A) (y : Placed B) → same_span x.span y.span ≡ false → same_item E x y ≡ false
elsewhere E x y apart = ap (λ b. b && E x.item y.item) apart

-- fields by their names, the names' places, and their values
module _ {A B : Type 0} (E : A → B → Bool) (p : Pair A) (q : Pair B) where
  pub other_name : bytes_eq p.0.item q.0.item ≡ false → same_field E p q ≡ false
  other_name apart = ap (λ b. (b && same_span p.0.span q.0.span) && same_item E p.1 q.1) apart

  pub name_elsewhere : bytes_eq p.0.item q.0.item ≡ true → same_span p.0.span q.0.span ≡ false → same_field E p q ≡ false
  name_elsewhere name apart = λ i. (name i && apart i) && same_item E p.1 q.1

  pub other_value : bytes_eq p.0.item q.0.item ≡ true → same_span p.0.span q.0.span ≡ true → same_item E p.1 q.1 ≡ false → same_field E p q ≡ false
  other_value name place apart = λ i. (name i && place i) && apart i

  pub same_value : bytes_eq p.0.item q.0.item ≡ true → same_span p.0.span q.0.span ≡ true → same_item E p.1 q.1 ≡ true → same_field E p q ≡ true
  same_value name place alike = λ i. (name i && place i) && alike i
