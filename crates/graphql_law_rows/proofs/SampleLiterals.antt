-- The literals are what they say, and one of them holds no variable.
use Rattle.std.proofs.Common.{◌≡◌, refl, [], Some}
use Rattle.graphql_values.specs.Variables.{IsConstant, constant_of, names_of_variables}
use Rattle.graphql_values.proofs.InputValueEquations.{value_folds}
use Rattle.graphql_values.proofs.VariableLaws.{none_is_listed}
use Rattle.graphql_law_rows.specs.SampleLiterals.{seven, one_and_x, one_and_seven}

pub x_becomes_seven : constant_of seven one_and_x ≡ Some one_and_seven
x_becomes_seven = simp value_folds refl

no_variable_is_left : names_of_variables one_and_seven ≡ []
no_variable_is_left = simp value_folds refl

pub one_and_seven_is_constant : IsConstant one_and_seven
one_and_seven_is_constant = (none_is_listed _ one_and_seven).0 no_variable_is_left
