-- The laws of distinct keys at every depth.
use Rattle.std.proofs.Common.{◌≡◌, ◌↔◌, ℕ, zero, suc, Bool, true, false, cond, List, [], ◌∷◌, ◌++◌, map, ap, sym, subst, refl, ◌∙◌}
use Rattle.std.specs.List.{All, IsDistinct, flat_map}
use Rattle.std.specs.Map.{keys_of, values_of}
use Rattle.std.specs.Str.{bytes_eq}
use Rattle.std.proofs.lemmas.List.Elements.{All-nil, All-cons, All-head, All-tail, All-append}
use Rattle.std.proofs.lemmas.List.Folds.{flat_map-map}
use Rattle.std.proofs.lemmas.Map.{keys-set_value}
use Rattle.std.proofs.lemmas.Map.Views.{All-values-set_value, IfSome-lookup_from_All}
use Rattle.graphql_output_values.specs.DistinctKeys.{KeyLists, keys_layer, keys_fields_layer, keys_in, HasDistinctKeysThroughout, ObjectHasDistinctKeysThroughout}
use Rattle.graphql_output_values.specs.DistinctLaws.{DistinctByForms, DistinctUnderKeys, DistinctOnceWritten, KeysStayInPlace, MadeDistinctThroughout}
use Rattle.graphql_output_values.specs.Lending.{set_value_at}
use Rattle.graphql_output_values.specs.Objects.{Pair, HasDistinctKeys, with_field, with_fields}
use Rattle.graphql_output_values.specs.ValueEquations.{on_value, keys_on_value, fold_null, fold_scalar, fold_list, fold_object, fold_fields}
use Rattle.graphql_output_values.specs.ValueInduction.{value_ind, HoldsOfItems, HoldsOfFields}
use Rattle.graphql_output_values.specs.Values.{map_scalars, map_field}
use Rattle.graphql_output_values.specs.declared.object.Object.{Object}
use Rattle.graphql_output_values.specs.declared.value.Value.{Value}
use Rattle.graphql_output_values.specs.declared.value.Value.TheVariants as value
use Rattle.graphql_output_values.proofs.MapLemmas.{map_scalars-null, map_scalars-scalar, map_scalars-list, map_scalars-object}
use Rattle.graphql_output_values.proofs.ObjectLemmas.{distinct_after}
use Rattle.graphql_output_values.proofs.FieldLaws.{made_distinct}

-- what holds of each element of each piece
module _ {X : Type 0} (P : X → Type 0) where
  split : (xs ys : List X) → All P (xs ++ ys) → All P xs × All P ys
  split [] ys all = (All-nil P, all)
  split (x ∷ xs) ys all = let rest = split xs ys (All-tail P x (xs ++ ys) all) in (All-cons P x xs (All-head P x (xs ++ ys) all) rest.0, rest.1)

  each_piece : {A : Type 0} (f : A → List X) (items : List A) → All P (flat_map f items) ↔ All (λ a. All P (f a)) items
  each_piece f [] = (λ all. All-nil (λ a. All P (f a)), λ all. All-nil P)
  each_piece f (a ∷ items) = (
    λ all. let parts = split (f a) (flat_map f items) all in All-cons (λ b. All P (f b)) a items parts.0 ((each_piece f items).0 parts.1),
    λ all. All-append P (f a) (flat_map f items) (All-head (λ b. All P (f b)) a items all) ((each_piece f items).1 (All-tail (λ b. All P (f b)) a items all)),
  )

-- the keys of one object are distinct
abbrev Apart : List (List ℕ) → Type 0
Apart = IsDistinct bytes_eq

keys_in-null : (S : Type 0) → keys_in {S = S} value.Null ≡ []
keys_in-null S = fold_null keys_layer keys_fields_layer

module _ {S : Type 0} where
  keys_in-scalar : (s : S) → keys_in (value.Scalar s) ≡ []
  keys_in-scalar s = fold_scalar keys_layer keys_fields_layer s

  keys_in-list : (xs : List (Value S)) → keys_in (value.List xs) ≡ flat_map keys_in xs
  keys_in-list xs = fold_list keys_layer keys_fields_layer xs ∙ flat_map-map (λ (keys : KeyLists). keys) keys_in xs

  keys_in-object : (o : Object S) → keys_in (value.Object o) ≡ keys_of o.fields ∷ flat_map keys_in (values_of o.fields)
  keys_in-object o =
      let parts : flat_map (λ (p : Pair KeyLists). p.1) (map (on_value keys_in) o.fields) ≡ flat_map keys_in (values_of o.fields)
      = flat_map-map (λ (p : Pair KeyLists). p.1) (on_value keys_in) o.fields ∙ sym (flat_map-map keys_in (λ (p : Pair (Value S)). p.1) o.fields) in
      fold_object keys_layer keys_fields_layer o ∙ fold_fields keys_layer keys_fields_layer o ∙ (λ i. keys_on_value keys_in o.fields i ∷ parts i)

  -- an object's own keys, and those of each object in its values
  of_object : (o : Object S) → HasDistinctKeysThroughout (value.Object o) ↔ ObjectHasDistinctKeysThroughout o
  of_object o =
      let keys = keys_of o.fields in
      let within = flat_map keys_in (values_of o.fields) in
      let parts = each_piece Apart keys_in (values_of o.fields) in (
        λ all. let each = subst (All Apart) (keys_in-object o) all in (All-head Apart keys within each, parts.0 (All-tail Apart keys within each)),
        λ both. subst (All Apart) (sym (keys_in-object o)) (All-cons Apart keys within both.0 (parts.1 both.1)),
      )

  of_list : (xs : List (Value S)) → HasDistinctKeysThroughout (value.List xs) ↔ All HasDistinctKeysThroughout xs
  of_list xs =
      let parts = each_piece Apart keys_in xs in (
        λ all. parts.0 (subst (All Apart) (keys_in-list xs) all),
        λ each. subst (All Apart) (sym (keys_in-list xs)) (parts.1 each),
      )

  pub by_forms : DistinctByForms S
  by_forms = (
    subst (All Apart) (sym (keys_in-null S)) (All-nil Apart),
    λ s. subst (All Apart) (sym (keys_in-scalar s)) (All-nil Apart),
    of_list,
    of_object,
  )

  pub under_keys : DistinctUnderKeys S
  under_keys object key distinct = IfSome-lookup_from_All HasDistinctKeysThroughout (bytes_eq key) object.fields distinct.1

  pub once_written : DistinctOnceWritten S
  once_written object key written distinct fine = (
    subst (IsDistinct bytes_eq) (sym (keys-set_value (bytes_eq key) object.fields written)) distinct.0,
    All-values-set_value (bytes_eq key) HasDistinctKeysThroughout object.fields written distinct.1 fine,
  )

  -- the keys are not written at a place
  keys_at : (place : ℕ) (v : Value S) (fs : List (Pair (Value S))) → keys_of (set_value_at place v fs) ≡ keys_of fs
  keys_at place v [] = refl
  keys_at zero v (f ∷ fs) = refl
  keys_at (suc place) v (f ∷ fs) = λ i. f.0 ∷ keys_at place v fs i

  -- and the values are the others and the new one
  values_at : (P : Value S → Type 0) (place : ℕ) (v : Value S) (fs : List (Pair (Value S))) → All P (values_of fs) → P v → All P (values_of (set_value_at place v fs))
  values_at P place v [] all fine = all
  values_at P zero v (f ∷ fs) all fine = All-cons P v (values_of fs) fine (All-tail P f.1 (values_of fs) all)
  values_at P (suc place) v (f ∷ fs) all fine = All-cons P f.1 (values_of (set_value_at place v fs)) (All-head P f.1 (values_of fs) all) (values_at P place v fs (All-tail P f.1 (values_of fs) all) fine)

  pub stay_in_place : KeysStayInPlace S
  stay_in_place object place written = (
    keys_at place written object.fields,
    λ distinct fine. (
      subst Apart (sym (keys_at place written object.fields)) distinct.0,
      values_at HasDistinctKeysThroughout place written object.fields distinct.1 fine,
    ),
  )

  -- with one more value among the values
  values_after : (P : Value S → Type 0) (key : List ℕ) (v : Value S) (fs : List (Pair (Value S))) → All P (values_of fs) → P v → All P (values_of (with_field fs key v))
  values_after P key v [] all fine = All-cons P v [] fine all
  values_after P key v (f ∷ fs) all fine = either (bytes_eq key f.0) (values_after P key v fs (All-tail P f.1 (values_of fs) all) fine)
    where
      either : (b : Bool) → All P (values_of (with_field fs key v)) → All P (values_of (cond b ((f.0, v) ∷ fs) (f ∷ with_field fs key v)))
      either true rest = All-cons P v (values_of fs) fine (All-tail P f.1 (values_of fs) all)
      either false rest = All-cons P f.1 (values_of (with_field fs key v)) (All-head P f.1 (values_of fs) all) rest

  pub once_put : (fields : List (Pair (Value S))) (key : List ℕ) (v : Value S) (made : Object S) → made.fields ≡ with_field fields key v → ObjectHasDistinctKeysThroughout (record { fields = fields }) → HasDistinctKeysThroughout v → ObjectHasDistinctKeysThroughout made
  once_put fields key v made is distinct fine = (
    subst HasDistinctKeys (sym is) (distinct_after key v fields distinct.0),
    subst (λ fs. All HasDistinctKeysThroughout (values_of fs)) (sym is) (values_after HasDistinctKeysThroughout key v fields distinct.1 fine),
  )

  values_made : (P : Value S → Type 0) (done pairs : List (Pair (Value S))) → All P (values_of done) → All P (values_of pairs) → All P (values_of (with_fields done pairs))
  values_made P done [] all each = all
  values_made P done (p ∷ ps) all each =
      values_made P (with_field done p.0 p.1) ps (values_after P p.0 p.1 done all (All-head P p.1 (values_of ps) each)) (All-tail P p.1 (values_of ps) each)

  pub made_throughout : MadeDistinctThroughout S
  made_throughout pairs each = (made_distinct pairs, values_made HasDistinctKeysThroughout [] pairs (All-nil HasDistinctKeysThroughout) each)

-- pieces that are the same, one by one
same_pieces : {A B : Type 0} (f g : A → List B) (items : List A) → All (λ a. f a ≡ g a) items → flat_map f items ≡ flat_map g items
same_pieces f g [] same = refl
same_pieces f g (a ∷ items) same = λ i. All-head (λ b. f b ≡ g b) a items same i ++ same_pieces f g items (All-tail (λ b. f b ≡ g b) a items same) i

module _ {S T : Type 0} (turn : S → T) where
  abbrev Keeps : Value S → Type 0
  Keeps v = keys_in (map_scalars turn v) ≡ keys_in v

  keeps-list : (xs : List (Value S)) → HoldsOfItems Keeps xs → Keeps (value.List xs)
  keeps-list xs all =
      ap keys_in (map_scalars-list turn xs)
      ∙ keys_in-list (map (map_scalars turn) xs)
      ∙ flat_map-map keys_in (map_scalars turn) xs
      ∙ same_pieces (λ v. keys_in (map_scalars turn v)) keys_in xs all
      ∙ sym (keys_in-list xs)

  keeps-object : (o : Object S) → HoldsOfFields Keeps o.fields → Keeps (value.Object o)
  keeps-object o all =
      let own = keys_on_value (map_scalars turn) o.fields in
      let parts : flat_map keys_in (values_of (map (map_field turn) o.fields)) ≡ flat_map keys_in (values_of o.fields)
      = flat_map-map keys_in (λ (p : Pair (Value T)). p.1) (map (map_field turn) o.fields)
      ∙ flat_map-map (λ (p : Pair (Value T)). keys_in p.1) (map_field turn) o.fields
      ∙ same_pieces (λ (p : Pair (Value S)). keys_in (map_scalars turn p.1)) (λ p. keys_in p.1) o.fields all
      ∙ sym (flat_map-map keys_in (λ (p : Pair (Value S)). p.1) o.fields) in
      ap keys_in (map_scalars-object turn o)
      ∙ keys_in-object (record { fields = map (map_field turn) o.fields })
      ∙ (λ i. own i ∷ parts i)
      ∙ sym (keys_in-object o)

  pub keeps_keys : (v : Value S) → Keeps v
  keeps_keys = value_ind Keeps
      (ap keys_in (map_scalars-null turn) ∙ keys_in-null T ∙ sym (keys_in-null S))
      (λ s. ap keys_in (map_scalars-scalar turn s) ∙ keys_in-scalar (turn s) ∙ sym (keys_in-scalar s))
      keeps-list
      keeps-object
