use Rattle.std.proofs.Common.{◌≡◌, subst}
use Rattle.graphql_values.specs.Variables.{IsConstant}
use Rattle.graphql_values.specs.declared.input_value.InputValue.TheVariants as input
use Rattle.graphql_law_rows.specs.SampleValues.{variables, constants, seven, nothing}
use Rattle.graphql_law_rows.proofs.SampleValues.{no_variable_in_constants, no_variable_in_seven, seven_is_put, nothing_is_put}
use Rattle.graphql_law_rows.proofs.values.variable_becomes_its_value.Goals as goal

pub returns-clause-constant : goal.returns-clause-constant
returns-clause-constant c =
    let seven_is_constant = (c.variables_are_listed.ensures.none (input.Scalar 7)).0 no_variable_in_seven in
    c.variables_are_replaced.ensures.constant seven
    (λ name w is. let same : input.Scalar 7 ≡ w = cc in subst IsConstant same seven_is_constant)
    variables constants seven_is_put

pub returns-clause-stays : goal.returns-clause-stays
returns-clause-stays c =
    c.variables_are_replaced.ensures.stay nothing constants
    ((c.variables_are_listed.ensures.none constants).0 no_variable_in_constants)

pub returns-clause-lacks : goal.returns-clause-lacks
returns-clause-lacks c = c.variables_are_replaced.ensures.fail nothing variables nothing_is_put
