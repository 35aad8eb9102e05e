use Rattle.graphql_json.proofs.Keys.{keys_keep_values}
use Rattle.graphql_json.proofs.laws.keys_keep_values.Goals as goal

pub returns : goal.returns
returns g c = keys_keep_values g.S.ScalarValue.answer
