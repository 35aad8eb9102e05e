-- What the equality of values is at each two forms.
use Rattle.std.proofs.Common.{◌≡◌, Bool, true, false, cond, ◌&&◌, List, [], ◌∷◌, ℕ, Option, Some}
use Rattle.std.proofs.Common.{None, map, ap, sym, refl, ◌∙◌}
use Rattle.std.specs.List.{list_all}
use Rattle.std.specs.Map.{lookup, keys_of}
use Rattle.std.specs.Option.{option_map}
use Rattle.std.specs.Str.{bytes_eq}
use Rattle.graphql_output_values.specs.Equality.{agree, agree_under, fields_equal, items_equal}
use Rattle.graphql_output_values.specs.Equality.{forms_equal, equal_layer, equal_fields, equal}
use Rattle.graphql_output_values.specs.Equality.{equal_objects}
use Rattle.graphql_output_values.specs.Objects.{Pair, field_value}
use Rattle.graphql_output_values.specs.declared.object.Object.{Object}
use Rattle.graphql_output_values.specs.declared.value.Value.{Value, out-Value, out-roll-Value}
use Rattle.graphql_output_values.specs.declared.value.Value.TheOpen.{Value-F}
use Rattle.graphql_output_values.specs.declared.value.Value.TheVariants as value
use Rattle.graphql_output_values.specs.ValueEquations.{
  on_value,
  keys_on_value,
  fold_null,
  fold_scalar,
  fold_list,
  fold_object,
  fold_fields,
}

module _ {A B : Type 0} (f : A → B → Bool) where
  items_map : (xs : List A) (ys : List B)
      → items_equal (λ (g : B → Bool) y. g y) (map f xs) ys ≡ items_equal f xs ys
  items_map [] [] = refl
  items_map [] (y ∷ ys) = refl
  items_map (x ∷ xs) [] = refl
  items_map (x ∷ xs) (y ∷ ys) = ap (λ b. f x y && b) (items_map xs ys)

  lookup_map : (t : List ℕ → Bool) (fs : List (Pair A))
      → lookup t (map (on_value f) fs) ≡ option_map f (lookup t fs)
  lookup_map t [] = refl
  lookup_map t (p ∷ fs) = either (t p.0) (lookup_map t fs)
    where
      either : (b : Bool) → lookup t (map (on_value f) fs) ≡ option_map f (lookup t fs)
          → cond b (Some (f p.1)) (lookup t (map (on_value f) fs))
          ≡ option_map f (cond b (Some p.1) (lookup t fs))
      either true rest = refl
      either false rest = rest

  agree_map : (p : Option A) (q : Option B)
      → agree (λ (g : B → Bool) y. g y) (option_map f p) q ≡ agree f p q
  agree_map None None = refl
  agree_map None (Some y) = refl
  agree_map (Some x) None = refl
  agree_map (Some x) (Some y) = refl

  fields_map : (fs : List (Pair A)) (gs : List (Pair B))
      → fields_equal (λ (g : B → Bool) y. g y) (map (on_value f) fs) gs ≡ fields_equal f fs gs
  fields_map fs gs =
      let under : (k : List ℕ)
      → agree_under (λ (g : B → Bool) y. g y) (map (on_value f) fs) gs k ≡ agree_under f fs gs k
      = λ k. ap (λ o. agree (λ (g : B → Bool) y. g y) o (field_value gs k))
      (lookup_map (bytes_eq k) fs) ∙ agree_map (field_value fs k) (field_value gs k) in
      λ i. list_all (λ k. under k i) (keys_on_value f fs i)
      && list_all (λ k. under k i) (keys_of gs)

-- the layer of each form
module _ {S : Type 0} where
  pub out_null : out-Value S value.Null ≡ Value-F.Null
  out_null = ap (out-Value S) (sym value.rolls-Null) ∙ out-roll-Value S Value-F.Null

  pub out_scalar : (s : S) → out-Value S (value.Scalar s) ≡ Value-F.Scalar s
  out_scalar s = ap (out-Value S) (sym (value.rolls-Scalar s)) ∙ out-roll-Value S (Value-F.Scalar s)

  pub out_list : (xs : List (Value S)) → out-Value S (value.List xs) ≡ Value-F.List xs
  out_list xs = ap (out-Value S) (sym (value.rolls-List xs)) ∙ out-roll-Value S (Value-F.List xs)

  pub out_object : (o : Object S) → out-Value S (value.Object o) ≡ Value-F.Object o
  out_object o = ap (out-Value S) (sym (value.rolls-Object o)) ∙ out-roll-Value S (Value-F.Object o)

module _ {S : Type 0} (same : S → S → Bool) where
  -- a form against any value
  pub null_against : (w : Value S)
      → equal same value.Null w ≡ forms_equal same Value-F.Null (out-Value S w)
  null_against w = ap (λ e. e w) (fold_null (equal_layer same) (equal_fields same))

  pub scalar_against : (s : S) (w : Value S)
      → equal same (value.Scalar s) w ≡ forms_equal same (Value-F.Scalar s) (out-Value S w)
  scalar_against s w = ap (λ e. e w) (fold_scalar (equal_layer same) (equal_fields same) s)

  pub list_against : (xs : List (Value S)) (w : Value S)
      → equal same (value.List xs) w
      ≡ forms_equal same (Value-F.List (map (equal same) xs)) (out-Value S w)
  list_against xs w = ap (λ e. e w) (fold_list (equal_layer same) (equal_fields same) xs)

  pub object_against : (o : Object S) (w : Value S)
      → equal same (value.Object o) w
      ≡ forms_equal same (Value-F.Object (equal_objects same o)) (out-Value S w)
  object_against o w =
      let fields =
      λ (p : Object S). ap (λ e. e p) (fold_fields (equal_layer same) (equal_fields same) o)
      ∙ fields_map (equal same) o.fields p.fields in
      ap (λ e. e w) (fold_object (equal_layer same) (equal_fields same) o)
      ∙ (λ i. forms_equal same (Value-F.Object (λ p. fields p i)) (out-Value S w))

  -- two of one form
  pub equal_nulls : equal same value.Null value.Null ≡ true
  equal_nulls = null_against value.Null ∙ ap (forms_equal same Value-F.Null) out_null

  pub equal_scalars : (s t : S) → equal same (value.Scalar s) (value.Scalar t) ≡ same s t
  equal_scalars s t =
      scalar_against s (value.Scalar t) ∙ ap (forms_equal same (Value-F.Scalar s)) (out_scalar t)

  pub equal_lists : (xs ys : List (Value S))
      → equal same (value.List xs) (value.List ys) ≡ items_equal (equal same) xs ys
  equal_lists xs ys = list_against xs (value.List ys)
      ∙ ap (forms_equal same (Value-F.List (map (equal same) xs))) (out_list ys)
      ∙ items_map (equal same) xs ys

  pub equal_as_objects : (o p : Object S)
      → equal same (value.Object o) (value.Object p) ≡ equal_objects same o p
  equal_as_objects o p = object_against o (value.Object p)
      ∙ ap (forms_equal same (Value-F.Object (equal_objects same o))) (out_object p)
