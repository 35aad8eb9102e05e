-- The variables of a value without its places are those of the value.
use Rattle.std.proofs.Common.{◌≡◌, ◌↔◌, refl, sym, ◌∙◌, ap, suc, arith, List, [], ◌∷◌, ◌++◌, map}
use Rattle.std.specs.List.{flat_map}
use Rattle.graphql_values.specs.declared.input_value.InputValue.{InputValue}
use Rattle.graphql_values.specs.InputValues.{Placed, Pair, unlocated, unlocated_layer}
use Rattle.graphql_values.specs.Variables.{IsConstant, names_of_variables}
use Rattle.graphql_values.proofs.InputValueEquations.{fold_null, fold_scalar, fold_enum, fold_variable, unlocated_list, unlocated_object}
use Rattle.graphql_values.proofs.InputValueInduction.{value_ind, HoldsOfItems, HoldsOfPairs}
use Rattle.graphql_values.proofs.SamePlaces.{unlocated_item, unlocated_pair}
use Rattle.graphql_values.proofs.VariableLaws.{none_is_listed}
use Rattle.graphql_values.proofs.VariableLemmas.{variables_in_list, variables_in_object}

module _ {S : Type 0} where
  abbrev SameVariables : InputValue S → Type 0
  SameVariables v = names_of_variables (unlocated v) ≡ names_of_variables v

  of_items : (xs : List (Placed (InputValue S))) → HoldsOfItems SameVariables xs
      → flat_map (λ x. names_of_variables x.item) (map unlocated_item xs) ≡ flat_map (λ x. names_of_variables x.item) xs
  of_items [] each = refl
  of_items (x ∷ xs) each = λ i. each 0 x (omega arith) i ++ of_items xs (λ k d within. each (suc k) d (omega arith)) i

  of_pairs : (ps : List (Pair (InputValue S))) → HoldsOfPairs SameVariables ps
      → flat_map (λ p. names_of_variables p.1.item) (map unlocated_pair ps) ≡ flat_map (λ p. names_of_variables p.1.item) ps
  of_pairs [] each = refl
  of_pairs (p ∷ ps) each = λ i. each 0 p (omega arith) i ++ of_pairs ps (λ k d within. each (suc k) d (omega arith)) i

  pub same_variables : (v : InputValue S) → names_of_variables (unlocated v) ≡ names_of_variables v
  same_variables = value_ind SameVariables
      (ap names_of_variables (fold_null unlocated_layer))
      (λ s. ap names_of_variables (fold_scalar unlocated_layer s))
      (λ n. ap names_of_variables (fold_enum unlocated_layer n))
      (λ n. ap names_of_variables (fold_variable unlocated_layer n))
      (λ xs each. ap names_of_variables (unlocated_list xs)
      ∙ variables_in_list (map unlocated_item xs) ∙ of_items xs each ∙ sym (variables_in_list xs))
      (λ ps each. ap names_of_variables (unlocated_object ps)
      ∙ variables_in_object (map unlocated_pair ps) ∙ of_pairs ps each ∙ sym (variables_in_object ps))

  -- no variable stands in a value exactly where none stands in it without its places
  pub same_constant : (v : InputValue S) → IsConstant v ↔ IsConstant (unlocated v)
  same_constant v = (
    λ c. (none_is_listed S (unlocated v)).0 (same_variables v ∙ (none_is_listed S v).1 c),
    λ c. (none_is_listed S v).0 (sym (same_variables v) ∙ (none_is_listed S (unlocated v)).1 c),
  )
