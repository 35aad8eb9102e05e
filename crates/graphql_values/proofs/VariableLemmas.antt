-- The variables of a value, by the value's form.
use Rattle.std.proofs.Common.{◌≡◌, ℕ, suc, ◌+◌, ◌<◌, List, [], ◌∷◌, ◌++◌, Option, Some, None, map, length, take, drop, get_or, ap, sym, refl, ◌∙◌}
use Rattle.std.proofs.lemmas.List.{take_more, take-append-drop}
use Rattle.std.proofs.Math.Seq.{drop-cons}
use Rattle.std.specs.Option.{option_map, option_and_then}
use Rattle.std.specs.List.{flat_map}
use Rattle.std.proofs.lemmas.List.Folds.{flat_map-map}
use Rattle.graphql_values.specs.declared.input_value.InputValue.{InputValue}
use Rattle.graphql_values.specs.declared.input_value.InputValue.TheVariants as value
use Rattle.graphql_values.specs.InputValues.{Placed, Pair}
use Rattle.graphql_values.specs.Variables.{names_of_variables, variables_layer, each_given, given_item, given_pair, constant_layer, constant_of, constant_item, constant_pair}
use Rattle.graphql_values.proofs.InputValueEquations.{on_item, on_value, fold_list, fold_object}
use Rattle.graphql_text.specs.declared.text.Text.{Text}

module _ {S : Type 0} where
  pub variables_in_list : (xs : List (Placed (InputValue S))) → names_of_variables (value.List xs) ≡ flat_map (λ (x : Placed (InputValue S)). names_of_variables x.item) xs
  variables_in_list xs = fold_list variables_layer xs ∙ flat_map-map (λ x. x.item) (on_item names_of_variables) xs

  pub variables_in_object : (ps : List (Pair (InputValue S))) → names_of_variables (value.Object ps) ≡ flat_map (λ (p : Pair (InputValue S)). names_of_variables p.1.item) ps
  variables_in_object ps = fold_object variables_layer ps ∙ flat_map-map (λ p. p.1.item) (on_value names_of_variables) ps

each_given-map : {A B C : Type 0} (f : B → Option C) (g : A → B) (xs : List A) → each_given f (map g xs) ≡ each_given (λ x. f (g x)) xs
each_given-map f g [] = refl
each_given-map {C} f g (x ∷ xs) = ap (λ rest. option_and_then (λ y. option_map (λ ys. y ∷ ys) rest) (f (g x))) (each_given-map f g xs)

module _ {S : Type 0} (given : Text → Option (InputValue S)) where
  pub constant_of_list : (xs : List (Placed (InputValue S))) → constant_of given (value.List xs) ≡ option_map value.List (each_given (constant_item given) xs)
  constant_of_list xs = fold_list (constant_layer given) xs ∙ ap (option_map value.List) (each_given-map given_item (on_item (constant_of given)) xs)

  pub constant_of_object : (ps : List (Pair (InputValue S))) → constant_of given (value.Object ps) ≡ option_map value.Object (each_given (constant_pair given) ps)
  constant_of_object ps = fold_object (constant_layer given) ps ∙ ap (option_map value.Object) (each_given-map given_pair (on_value (constant_of given)) ps)

module _ {A B : Type 0} (f : A → Option B) where
  -- what the items behind give, put behind what those before them gave
  abbrev with_behind : Option (List B) → Option (List B) → Option (List B)
  with_behind behind before = option_and_then (λ cs. option_map (λ zs. cs ++ zs) behind) before

  abbrev with_first : Option (List B) → Option B → Option (List B)
  with_first rest first = option_and_then (λ y. option_map (λ ys. y ∷ ys) rest) first

  same_behind : (o : Option (List B)) → o ≡ with_behind o (Some [])
  same_behind None = refl
  same_behind (Some zs) = refl

  first_before : (o : Option B) (r e : Option (List B)) → with_first (with_behind e r) o ≡ with_behind e (with_first r o)
  first_before None r e = refl
  first_before (Some y) None e = refl
  first_before (Some y) (Some cs) None = refl
  first_before (Some y) (Some cs) (Some zs) = refl

  each_given-append : (xs ys : List A) → each_given f (xs ++ ys) ≡ with_behind (each_given f ys) (each_given f xs)
  each_given-append [] ys = same_behind (each_given f ys)
  each_given-append (x ∷ xs) ys = ap (λ rest. with_first rest (f x)) (each_given-append xs ys) ∙ first_before (f x) (each_given f xs) (each_given f ys)

  -- one item more, which gives something
  pub given_more : (xs : List A) (cs more : List B) (k : ℕ) (x : A) (y : B) → each_given f (take k xs) ≡ Some cs → k < length xs → x ≡ get_or xs k x → f x ≡ Some y → more ≡ cs ++ y ∷ [] → each_given f (take (k + 1) xs) ≡ Some more
  given_more xs cs more k x y before within is gives after =
      ap (each_given f) (take_more xs k x within ∙ ap (λ z. take k xs ++ z ∷ []) (sym is))
      ∙ each_given-append (take k xs) (x ∷ [])
      ∙ ap (with_behind (each_given f (x ∷ []))) before
      ∙ ap (λ o. with_behind (with_first (Some []) o) (Some cs)) gives
      ∙ ap Some (sym after)

  -- an item that gives nothing
  pub given_lacks : (xs : List A) (cs : List B) (k : ℕ) (x : A) → each_given f (take k xs) ≡ Some cs → k < length xs → x ≡ get_or xs k x → f x ≡ None → each_given f xs ≡ None
  given_lacks xs cs k x before within is lacks =
      ap (each_given f) (sym (take-append-drop k xs))
      ∙ each_given-append (take k xs) (drop k xs)
      ∙ ap (with_behind (each_given f (drop k xs))) before
      ∙ ap (λ l. with_behind (each_given f l) (Some cs)) (drop-cons xs k x within ∙ ap (λ z. z ∷ drop (suc k) xs) (sym is))
      ∙ ap (λ o. with_behind (with_first (each_given f (drop (suc k) xs)) o) (Some cs)) lacks

module _ {S : Type 0} (given : Text → Option (InputValue S)) where
  pub list_becomes : (v : InputValue S) (xs : List (Placed (InputValue S))) (o : Option (List (Placed (InputValue S)))) → v ≡ value.List xs → o ≡ each_given (constant_item given) xs → option_map value.List o ≡ constant_of given v
  list_becomes v xs o is same = ap (option_map value.List) same ∙ sym (ap (constant_of given) is ∙ constant_of_list given xs)

  pub object_becomes : (v : InputValue S) (ps : List (Pair (InputValue S))) (o : Option (List (Pair (InputValue S)))) → v ≡ value.Object ps → o ≡ each_given (constant_pair given) ps → option_map value.Object o ≡ constant_of given v
  object_becomes v ps o is same = ap (option_map value.Object) same ∙ sym (ap (constant_of given) is ∙ constant_of_object given ps)

  pub item_becomes : (x : Placed (InputValue S)) (o : Option (InputValue S)) → o ≡ constant_of given x.item → constant_item given x ≡ option_map (λ v. record { item = v; span = x.span }) o
  item_becomes x o same = ap (option_map (λ v. record { item = v; span = x.span })) (sym same)

  pub pair_becomes : (p : Pair (InputValue S)) (o : Option (InputValue S)) → o ≡ constant_of given p.1.item → constant_pair given p ≡ option_map (λ x. (p.0, x)) (option_map (λ v. record { item = v; span = p.1.span }) o)
  pair_becomes p o same = ap (λ r. option_map (λ x. (p.0, x)) (option_map (λ v. record { item = v; span = p.1.span }) r)) (sym same)
