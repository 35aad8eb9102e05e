use Rattle.graphql_plain_text.proofs.AgainParts.{again_value}
use Rattle.graphql_plain_text.proofs.laws.values_again.Goals as goal

pub returns : goal.returns
returns g c = again_value _ _
