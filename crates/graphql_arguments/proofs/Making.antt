-- A copy of a list or an object, made part by part.
use Rattle.std.proofs.Common.{◌≡◌, ℕ, ◌+◌, ◌<◌, List, [], ◌∷◌, ◌++◌, map, length, take, get_or, Option, Some, None, ap, sym, refl, ◌∙◌}
use Rattle.std.specs.List.{filter_map}
use Rattle.std.specs.Option.{option_map, unwrap_or}
use Rattle.std.proofs.lemmas.List.{take_more, map-append}
use Rattle.graphql_text.specs.declared.text.Text.{Text}
use Rattle.graphql_values.specs.InputValues.{Placed, Pair}
use Rattle.graphql_values.specs.declared.input_value.InputValue.{InputValue}
use Rattle.graphql_values.specs.declared.input_value.InputValue.TheVariants as value
use Rattle.graphql_written_out.specs.Filled.{filled, filled_item, filled_pair, value_or_null}
use Rattle.graphql_written_out.proofs.FilledEquations.{filled_list, filled_object}

-- one item more
pub mapped_more : {A B : Type 0} (f : A → B) (xs : List A) (i : ℕ) (x : A) (y : B) (before after : List B) → before ≡ map f (take i xs) → i < length xs → x ≡ get_or xs i x → y ≡ f x → after ≡ before ++ y ∷ [] → after ≡ map f (take (i + 1) xs)
mapped_more f xs i x y before after so_far within is same grown =
    grown
    ∙ ap (λ ys. ys ++ y ∷ []) so_far
    ∙ ap (λ z. map f (take i xs) ++ z ∷ []) same
    ∙ sym (map-append f (take i xs) (x ∷ []))
    ∙ ap (map f) (sym (take_more xs i x within ∙ ap (λ z. take i xs ++ z ∷ []) (sym is)))

null_if_none : {S : Type 0} (o : Option (InputValue S)) → unwrap_or o value.Null ≡ value_or_null o
null_if_none None = refl
null_if_none (Some v) = refl

module _ {S : Type 0} (given : Text → Option (InputValue S)) where
  pub list_made : (v : InputValue S) (xs ys : List (Placed (InputValue S))) → v ≡ value.List xs → ys ≡ map (filled_item given) xs → Some (value.List ys) ≡ filled given v
  list_made v xs ys is made = ap (λ zs. Some (value.List zs)) made ∙ sym (ap (filled given) is ∙ filled_list given xs)

  pub object_made : (v : InputValue S) (ps qs : List (Pair (InputValue S))) → v ≡ value.Object ps → qs ≡ filter_map (filled_pair given) ps → Some (value.Object qs) ≡ filled given v
  object_made v ps qs is made = ap (λ zs. Some (value.Object zs)) made ∙ sym (ap (filled given) is ∙ filled_object given ps)

  pub item_made : (x : Placed (InputValue S)) (o : Option (InputValue S)) (w : InputValue S) → o ≡ filled given x.item → w ≡ unwrap_or o value.Null → record { item = w; span = x.span } ≡ filled_item given x
  item_made x o w same is = ap (λ v. record { item = v; span = x.span }) (is ∙ null_if_none o ∙ ap value_or_null same)

  pub pair_made : (p : Pair (InputValue S)) (o : Option (InputValue S)) → o ≡ filled given p.1.item → filled_pair given p ≡ option_map (λ x. (p.0, x)) (option_map (λ v. record { item = v; span = p.1.span }) o)
  pair_made p o same = ap (λ r. option_map (λ x. (p.0, x)) (option_map (λ v. record { item = v; span = p.1.span }) r)) (sym same)
