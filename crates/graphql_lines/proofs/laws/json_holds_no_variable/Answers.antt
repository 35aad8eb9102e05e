use Rattle.graphql_lines.proofs.Constants.{json_holds_no_variable}
use Rattle.graphql_lines.proofs.laws.json_holds_no_variable.Goals as goal

pub returns : goal.returns
returns g c = json_holds_no_variable g.S.ScalarValue.of_bool g.S.ScalarValue.of_int g.S.ScalarValue.of_text
