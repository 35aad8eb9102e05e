use Rattle.graphql_law_rows.specs.SampleLiterals.{seven, no_values, one_and_x, one_and_seven}
use Rattle.graphql_law_rows.proofs.SampleLiterals.{x_becomes_seven, one_and_seven_is_constant}
use Rattle.graphql_law_rows.proofs.literals.variables_get_their_values.Goals as goal

pub returns-clause-filled : goal.returns-clause-filled
returns-clause-filled c = c.agrees_with_constants.ensures seven one_and_x one_and_seven x_becomes_seven

pub returns-clause-stays : goal.returns-clause-stays
returns-clause-stays c = c.constants_stay.ensures no_values one_and_seven one_and_seven_is_constant
