use Rattle.graphql_scalars.proofs.BadEscapes.{first_bad_escape_is_told}
use Rattle.graphql_scalars.proofs.laws.first_bad_escape_is_told.Goals as goal

pub returns : goal.returns
returns c = first_bad_escape_is_told
