-- The directive of a stand-in leaves out, and no directives do not.
use Rattle.std.proofs.Common.{◌≡◌, refl, ◌∙◌, ap, Bool, true, false, not, ◌||◌, Option, Some}
use Rattle.std.specs.Option.{option_and_then}
use Rattle.graphql_names.specs.Names.{Bytes}
use Rattle.graphql_scalars.specs.ScalarAnswers.{ScalarAnswer, as_bool, boolean}
use Rattle.graphql_values.specs.declared.input_value.InputValue.{InputValue}
use Rattle.graphql_values.specs.declared.input_value.InputValue.TheVariants as value
use Rattle.graphql_values.proofs.InputValueEquations.{fold_scalar}
use Rattle.graphql_written_out.specs.Conditions.{is_false, leaves_out, truth, truth_layer, truth_of}
use Rattle.graphql_plain_tree.specs.Laws.{StandInLeavesOut}

module _ {S : Type 0} (answer : S → ScalarAnswer) (of_bool : Bool → S) (answers : (b : Bool) → answer (of_bool b) ≡ boolean b) where
  -- a literal boolean is what it is, whatever values variables have
  pub truth-of_literal : (given : Bytes → Option (InputValue S)) (b : Bool) → truth answer given (value.Scalar (of_bool b)) ≡ Some b
  truth-of_literal given b =
      ap (option_and_then (truth_of answer)) (fold_scalar _ (of_bool b))
      ∙ ap (truth_layer answer) (value.outs-Scalar (of_bool b))
      ∙ ap as_bool (answers b)

  pub stand-in-leaves-out : StandInLeavesOut answer of_bool
  unfolding leaves_out
  stand-in-leaves-out given = (ap (λ o. not (is_false o) || false) (truth-of_literal given true), refl)
