use Rattle.graphql_output_values.proofs.PutLaws.{put_under}
use Rattle.graphql_output_values.proofs.laws.put_under.Goals as goal

pub returns : goal.returns
returns g c = put_under
