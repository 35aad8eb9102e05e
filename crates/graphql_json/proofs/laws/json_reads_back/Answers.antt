use Rattle.graphql_json.proofs.Outline.{json_reads_back}
use Rattle.graphql_json.proofs.laws.json_reads_back.Goals as goal

pub returns : goal.returns
returns g c = json_reads_back g.S.ScalarValue.answer
