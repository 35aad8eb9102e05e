use Rattle.serde_json.specs.Data.{no_members}
use Rattle.graphql_lines.proofs.Requests.{no_members_of_null, no_values}
use Rattle.graphql_lines.proofs.variables.variables_of_json.Goals as goal

pub returns-in-Null : goal.returns-in-Null
returns-in-Null g c =
    (no_members, no_members_of_null c.args.json c.in-Null.is, no_values g.S.ScalarValue.of_bool g.S.ScalarValue.of_int g.S.ScalarValue.of_text c.new.result c.new.ensures.empty)
