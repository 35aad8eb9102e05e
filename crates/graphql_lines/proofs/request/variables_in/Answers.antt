use Rattle.std.proofs.Common.{rules}
use Rattle.serde_json.specs.Data.{no_members}
use Rattle.graphql_lines.proofs.Requests.{no_values}
use Rattle.graphql_lines.proofs.request.variables_in.Goals as goal

pub returns-in-None : goal.returns-in-None
returns-in-None g c = (no_members, search rules, no_values g.S.ScalarValue.of_bool g.S.ScalarValue.of_int g.S.ScalarValue.of_text c.new.result c.new.ensures.empty)
