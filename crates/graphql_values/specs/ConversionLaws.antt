-- What the forms of input values give to lists, and that no value both means something and is
-- refused.
use Rattle.std.specs.Prelude.{◌≡◌, ℕ, Option, Some, None, List, [], ◌∷◌, ◌++◌, map, length}
use Rattle.std.specs.Option.{IsSomeAnd}
use Rattle.std.specs.List.{AllZip}
use Rattle.std.proofs.Common.{inl, inr, ap, sym, subst, ◌∙◌}
use Rattle.std.proofs.lemmas.Slice.Zip.{AllZip-long}
use Rattle.graphql_values.specs.declared.input_value.InputValue.{
  InputValue,
  out-InputValue,
  roll-InputValue,
  out-roll-InputValue,
}
use Rattle.graphql_values.specs.declared.input_value.InputValue.TheOpen.{InputValue-F}
use Rattle.graphql_values.specs.declared.input_value.InputValue.TheVariants as value
use Rattle.graphql_values.specs.declared.conversions.lists.FromInputValueVecError.{FromInputValueVecError}
use Rattle.graphql_values.specs.declared.conversions.lists.FromInputValueVecError.TheVariants as
    vec_error
use Rattle.graphql_values.specs.declared.conversions.arrays.FromInputValueArrayError.{FromInputValueArrayError}
use Rattle.graphql_values.specs.declared.conversions.arrays.FromInputValueArrayError.TheVariants as
    array_error
use Rattle.graphql_scalars.specs.declared.check_error.CheckError.{CheckError}
use Rattle.graphql_scalars.specs.ScalarAnswers.{ScalarAnswer}
use Rattle.graphql_values.specs.ConversionsOfScalars.{MeansAnswer, RefusesAnswer}
use Rattle.graphql_values.specs.InputValues.{Placed}
use Rattle.graphql_values.specs.Conversions.{Apart}
use Rattle.graphql_values.specs.ConversionsOfLists.{items_layer, items_of, IsRefusedFirst}
use Rattle.graphql_values.specs.ConversionsOfLists.{MeansItems, RefusesItems, IsItemMemory}
use Rattle.graphql_values.specs.ConversionsOfArrays.{MeansExactly, RefusesExactly, HasItems}
use Rattle.graphql_values.specs.ConversionsOfArrays.{ListHas}
use Rattle.graphql_values.specs.ConversionsOfArrays as arrays

module _ {S : Type 0} where
  -- the layer of a value that is made of it
  pub out_form : (v : InputValue S) (layer : InputValue-F S (InputValue S))
      → roll-InputValue S layer ≡ v → out-InputValue S v ≡ layer
  out_form v layer rolls = ap (out-InputValue S) (sym rolls) ∙ out-roll-InputValue S layer

  -- null gives no items
  pub items_of-null : items_of {S = S} value.Null ≡ None
  items_of-null =
      ap (items_layer value.Null) (out_form value.Null InputValue-F.Null value.rolls-Null)

  -- a list gives its own
  pub items_of-list : (items : List (Placed (InputValue S)))
      → items_of (value.List items) ≡ Some (map (λ x. x.item) items)
  items_of-list items = ap (items_layer (value.List items))
      (out_form (value.List items) (InputValue-F.List items) (value.rolls-List items))

-- the item behind some that the list at each place stands for stands for one too
pub AllZip-middle :
    {A B : Type 0} (R : A → B → Type 0) (before : List A) (x : A) (behind : List A) (ys : List B)
    → AllZip R (before ++ x ∷ behind) ys → (y : B) × R x y
AllZip-middle R [] x behind [] h = absurd h
AllZip-middle R [] x behind (y ∷ ys) h = (y, h.0)
AllZip-middle R (b ∷ before) x behind [] h = absurd h
AllZip-middle R (b ∷ before) x behind (y ∷ ys) h = AllZip-middle R before x behind ys h.1

module _ {S T E : Type 0} (means : InputValue S → T → Type 0) (refuses : InputValue S → E → Type 0)
    (apart : Apart means refuses) where
  item_apart : (items : Option (List (InputValue S))) (ys : List T) (e : E)
      → IsSomeAnd items (λ xs. AllZip means xs ys)
      → IsSomeAnd items (λ xs. IsRefusedFirst means refuses xs e) → ⊥
  item_apart None ys e meant refused = meant
  item_apart (Some xs) ys e meant refused =
      let found = AllZip-middle means refused.before refused.refused refused.behind ys
      (subst (λ xs. AllZip means xs ys) refused.parts meant) in
      apart refused.refused found.0 e found.1 refused.refused_is

  pub lists_apart : (v : InputValue S) (ys : List T) (e : FromInputValueVecError T S E)
      → MeansItems means v ys → RefusesItems means refuses v e → ⊥
  lists_apart v ys vec_error.Null meant is = subst
      (λ items. IsSomeAnd items (λ xs. AllZip means xs ys)) (ap items_of is ∙ items_of-null) meant
  lists_apart v ys (vec_error.Item e) meant refused = item_apart (items_of v) ys e meant refused
  lists_apart v ys vec_error.Memory meant refused = refused

-- want of memory of the list itself is want of memory
pub list_memory : {S T E : Type 0} (is_memory : E → Type 0) (e : FromInputValueVecError T S E)
    → e ≡ vec_error.Memory → IsItemMemory is_memory e
list_memory is_memory e is = subst (IsItemMemory is_memory) (sym is) tt

module _ {S T E : Type 0} (n : ℕ) (means : InputValue S → T → Type 0)
    (refuses : InputValue S → E → Type 0) (apart : Apart means refuses) where
  counts_apart : (v : InputValue S) (items : Option (List (InputValue S)))
      (ys : List T) (actual : ℕ) → IsSomeAnd items (λ xs. AllZip means xs ys)
      → IsSomeAnd items
      (λ xs. (length xs ≡ actual) × (ListHas n v → (zs : List T) × AllZip means xs zs))
      → length ys ≡ actual
  counts_apart v None ys actual meant other = absurd meant
  counts_apart v (Some xs) ys actual meant other = AllZip-long means xs ys meant ∙ other.0

  pub arrays_apart : (v : InputValue S) (ys : List T) (e : FromInputValueArrayError T S E)
      → MeansExactly n means v ys → RefusesExactly n means refuses v e → ⊥
  arrays_apart v ys array_error.Null meant is =
      lists_apart means refuses apart v ys vec_error.Null meant.0 is
  arrays_apart v ys (array_error.WrongCount actual expected) meant refused =
      refused.1 (sym (counts_apart v (items_of v) ys actual meant.0 refused.2) ∙ meant.1)
  arrays_apart v ys (array_error.Item e) meant refused =
      lists_apart means refuses apart v ys (vec_error.Item e) meant.0 refused.1
  arrays_apart v ys array_error.Memory meant refused = refused

-- want of memory of the array itself is want of memory
pub array_memory : {S T E : Type 0} (is_memory : E → Type 0) (e : FromInputValueArrayError T S E)
    → e ≡ array_error.Memory → arrays.IsItemMemory is_memory e
array_memory is_memory e is = subst (arrays.IsItemMemory is_memory) (sym is) tt

-- a scalar is no other scalar
pub same_scalar : {S : Type 0} (s r : S) → value.Scalar s ≡ value.Scalar r → s ≡ r
same_scalar {S} s r is =
    let layers : InputValue-F.Scalar s ≡ InputValue-F.Scalar r =
    sym (out_form (value.Scalar s) (InputValue-F.Scalar s) (value.rolls-Scalar s))
    ∙ ap (out-InputValue S) is
    ∙ out_form (value.Scalar r) (InputValue-F.Scalar r) (value.rolls-Scalar r) in
    cc

module _ {S A : Type 0} (type_name : List ℕ) (answer : S → ScalarAnswer)
    (wanted : ScalarAnswer → Option A) where
  pub answers_apart : (v : InputValue S) (x : A) (e : CheckError) → MeansAnswer answer wanted v x
      → RefusesAnswer type_name answer wanted v e → ⊥
  answers_apart v x e meant (inl refused) =
      let same : meant.0 ≡ refused.0 = same_scalar meant.0 refused.0 (sym meant.1 ∙ refused.1) in
      let both : Some x ≡ None = sym meant.2 ∙ ap (λ s. wanted (answer s)) same ∙ refused.2.0 in
      cc
  answers_apart v x e meant (inr refused) = refused.0 meant.0 meant.1
