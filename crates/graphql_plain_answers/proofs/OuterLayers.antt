-- No place within a value counts for what looks at its outermost layer.
use Rattle.std.proofs.Common.{◌≡◌, sym, ◌∙◌, ap, List}
use Rattle.graphql_values.specs.InputValues.{Placed, Pair, unlocated, unlocated_layer}
use Rattle.graphql_values.specs.declared.input_value.InputValue.{InputValue, out-InputValue}
use Rattle.graphql_values.specs.declared.input_value.InputValue.TheOpen.{InputValue-F}
use Rattle.graphql_values.specs.declared.input_value.InputValue.TheVariants as value
use Rattle.graphql_values.proofs.InputValueEquations.{fold_null, fold_scalar, fold_enum, fold_variable, unlocated_list, unlocated_object}
use Rattle.graphql_values.proofs.InputValueInduction.{value_ind}

-- what looks at the outermost layer of a value, and not within lists and objects, sees no places
module _ {S A : Type 0} (look : InputValue-F S (InputValue S) → A) (none : A)
    (at-list : (xs : List (Placed (InputValue S))) → look (InputValue-F.List xs) ≡ none)
    (at-object : (ps : List (Pair (InputValue S))) → look (InputValue-F.Object ps) ≡ none) where
  abbrev seen : InputValue S → A
  seen v = look (out-InputValue S v)

  list-seen : (xs : List (Placed (InputValue S))) → seen (value.List xs) ≡ none
  list-seen xs = ap look (value.outs-List xs) ∙ at-list xs

  object-seen : (ps : List (Pair (InputValue S))) → seen (value.Object ps) ≡ none
  object-seen ps = ap look (value.outs-Object ps) ∙ at-object ps

  pub layer-alike : (v : InputValue S)
      → look (out-InputValue S (unlocated v)) ≡ look (out-InputValue S v)
  layer-alike =
      value_ind (λ v. seen (unlocated v) ≡ seen v)
      (ap seen (fold_null unlocated_layer))
      (λ s. ap seen (fold_scalar unlocated_layer s))
      (λ n. ap seen (fold_enum unlocated_layer n))
      (λ n. ap seen (fold_variable unlocated_layer n))
      (λ xs each. ap seen (unlocated_list xs) ∙ list-seen _ ∙ sym (list-seen xs))
      (λ ps each. ap seen (unlocated_object ps) ∙ object-seen _ ∙ sym (object-seen ps))

-- what sees no difference between a thing and its image gives the same for things of one image
pub by-image : {A B : Type 0} (image : A → A) (look : A → B) → ((x : A) → look (image x) ≡ look x)
    → (a b : A) → image a ≡ image b → look a ≡ look b
by-image image look h a b same = sym (h a) ∙ ap look same ∙ h b
