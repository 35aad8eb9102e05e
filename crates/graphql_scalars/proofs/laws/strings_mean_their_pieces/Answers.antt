use Rattle.graphql_scalars.proofs.StringMeaning.{strings_mean_their_pieces}
use Rattle.graphql_scalars.proofs.laws.strings_mean_their_pieces.Goals as goal

pub returns : goal.returns
returns c = strings_mean_their_pieces
