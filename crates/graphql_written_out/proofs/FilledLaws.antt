-- A literal of which each variable has a value is what it becomes as a constant.
use Rattle.std.proofs.Common.{◌≡◌, suc, List, [], ◌∷◌, map, Option, Some, None, ap, sym, refl, ◌∙◌, arith}
use Rattle.std.proofs.lemmas.Option.{none-some, same_Some}
use Rattle.std.specs.List.{All, cons_option, filter_map}
use Rattle.std.specs.Option.{option_map, option_and_then}
use Rattle.graphql_text.specs.declared.text.Text.{Text}
use Rattle.graphql_values.specs.InputValues.{Placed, Pair}
use Rattle.graphql_values.specs.Variables.{each_given, constant_layer, constant_of, constant_item, constant_pair}
use Rattle.graphql_values.specs.declared.input_value.InputValue.{InputValue}
use Rattle.graphql_values.specs.declared.input_value.InputValue.TheVariants as value
use Rattle.graphql_values.proofs.InputValueEquations.{fold_null, fold_scalar, fold_enum, fold_variable}
use Rattle.graphql_values.proofs.InputValueInduction.{value_ind, HoldsOfItems, HoldsOfPairs}
use Rattle.graphql_values.proofs.VariableLaws as constants
use Rattle.graphql_values.proofs.VariableLemmas.{constant_of_list, constant_of_object}
use Rattle.graphql_written_out.specs.Filled.{item_or_null, filled, filled_layer, filled_item, filled_pair}
use Rattle.graphql_written_out.specs.Laws.{AgreesWithConstants, ConstantsStay}
use Rattle.graphql_written_out.proofs.FilledEquations.{filled_list, filled_object}

module _ {A B : Type 0} (f : A → Option B) where
  -- what gives a list gives each of its items
  parts : (R : Type 0) (o : Option B) (r : Option (List B)) (ys : List B) → option_and_then (λ y. option_map (λ zs. y ∷ zs) r) o ≡ Some ys → ((z : B) (zs : List B) → o ≡ Some z → r ≡ Some zs → z ∷ zs ≡ ys → R) → R
  parts R None r ys e go = absurd (none-some ys e)
  parts R (Some z) None ys e go = absurd (none-some ys e)
  parts R (Some z) (Some zs) ys e go = go z zs refl refl (same_Some _ _ e)

  pub map_agrees : (g : A → B) (xs : List A) (ys : List B) → All (λ x. (y : B) → f x ≡ Some y → g x ≡ y) xs → each_given f xs ≡ Some ys → map g xs ≡ ys
  map_agrees g [] ys all e = same_Some _ _ e
  map_agrees g (x ∷ xs) ys all e =
      parts (map g (x ∷ xs) ≡ ys) (f x) (each_given f xs) ys e (λ z zs first rest is.
      (λ i. all 0 x (omega arith) z first i ∷ map_agrees g xs zs (λ k d h. all (suc k) d (omega arith)) rest i) ∙ is)

  pub filter_map_agrees : (g : A → Option B) (xs : List A) (ys : List B) → All (λ x. (y : B) → f x ≡ Some y → g x ≡ Some y) xs → each_given f xs ≡ Some ys → filter_map g xs ≡ ys
  filter_map_agrees g [] ys all e = same_Some _ _ e
  filter_map_agrees g (x ∷ xs) ys all e =
      parts (filter_map g (x ∷ xs) ≡ ys) (f x) (each_given f xs) ys e (λ z zs first rest is.
      (λ i. cons_option (all 0 x (omega arith) z first i) (filter_map_agrees g xs zs (λ k d h. all (suc k) d (omega arith)) rest i)) ∙ is)

module _ {S : Type 0} (given : Text → Option (InputValue S)) where
  abbrev Agrees : InputValue S → Type 0
  Agrees v = (w : InputValue S) → constant_of given v ≡ Some w → filled given v ≡ Some w

  item_agrees : (x : Placed (InputValue S)) → Agrees x.item → (y : Placed (InputValue S)) → constant_item given x ≡ Some y → filled_item given x ≡ y
  item_agrees x agrees y = either (constant_of given x.item) refl
    where
      either : (o : Option (InputValue S)) → constant_of given x.item ≡ o → option_map (λ v. record { item = v; span = x.span }) o ≡ Some y → filled_item given x ≡ y
      either None is e = absurd (none-some y e)
      either (Some v) is e = ap (λ o. item_or_null (record { item = o; span = x.span })) (agrees v is) ∙ same_Some _ _ e

  pair_agrees : (p : Pair (InputValue S)) → Agrees p.1.item → (q : Pair (InputValue S)) → constant_pair given p ≡ Some q → filled_pair given p ≡ Some q
  pair_agrees p agrees q = either (constant_of given p.1.item) refl
    where
      either : (o : Option (InputValue S)) → constant_of given p.1.item ≡ o → option_map (λ x. (p.0, x)) (option_map (λ v. record { item = v; span = p.1.span }) o) ≡ Some q → filled_pair given p ≡ Some q
      either None is e = absurd (none-some q e)
      either (Some v) is e = ap (λ o. option_map (λ x. (p.0, x)) (option_map (λ v. record { item = v; span = p.1.span }) o)) (agrees v is) ∙ e

  list_agrees : (xs : List (Placed (InputValue S))) → HoldsOfItems Agrees xs → Agrees (value.List xs)
  list_agrees xs all w e = either (each_given (constant_item given) xs) refl (sym (constant_of_list given xs) ∙ e)
    where
      either : (o : Option (List (Placed (InputValue S)))) → each_given (constant_item given) xs ≡ o → option_map value.List o ≡ Some w → filled given (value.List xs) ≡ Some w
      either None is h = absurd (none-some w h)
      either (Some ys) is h =
          filled_list given xs
          ∙ ap (λ zs. Some (value.List zs)) (map_agrees (constant_item given) (filled_item given) xs ys (λ k d within. item_agrees _ (all k d within)) is)
          ∙ h

  object_agrees : (ps : List (Pair (InputValue S))) → HoldsOfPairs Agrees ps → Agrees (value.Object ps)
  object_agrees ps all w e = either (each_given (constant_pair given) ps) refl (sym (constant_of_object given ps) ∙ e)
    where
      either : (o : Option (List (Pair (InputValue S)))) → each_given (constant_pair given) ps ≡ o → option_map value.Object o ≡ Some w → filled given (value.Object ps) ≡ Some w
      either None is h = absurd (none-some w h)
      either (Some qs) is h =
          filled_object given ps
          ∙ ap (λ zs. Some (value.Object zs)) (filter_map_agrees (constant_pair given) (filled_pair given) ps qs (λ k d within. pair_agrees _ (all k d within)) is)
          ∙ h

  agrees : (v : InputValue S) → Agrees v
  agrees = value_ind Agrees
      (λ w e. fold_null (filled_layer given) ∙ sym (fold_null (constant_layer given)) ∙ e)
      (λ s w e. fold_scalar (filled_layer given) s ∙ sym (fold_scalar (constant_layer given) s) ∙ e)
      (λ n w e. fold_enum (filled_layer given) n ∙ sym (fold_enum (constant_layer given) n) ∙ e)
      (λ n w e. fold_variable (filled_layer given) n ∙ sym (fold_variable (constant_layer given) n) ∙ e)
      list_agrees
      object_agrees

pub agrees_with_constants : (S : Type 0) → AgreesWithConstants S
agrees_with_constants S given = agrees given

pub constants_stay : (S : Type 0) → ConstantsStay S
constants_stay S given v constant = agrees given v v (constants.constants_stay S given v constant)
