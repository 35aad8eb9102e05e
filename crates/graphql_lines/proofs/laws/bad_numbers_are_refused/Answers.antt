use Rattle.graphql_lines.proofs.BadNumbers.{bad_numbers_are_refused}
use Rattle.graphql_lines.proofs.laws.bad_numbers_are_refused.Goals as goal

pub returns : goal.returns
returns g c = bad_numbers_are_refused g.S.ScalarValue.of_bool g.S.ScalarValue.of_int g.S.ScalarValue.of_text
