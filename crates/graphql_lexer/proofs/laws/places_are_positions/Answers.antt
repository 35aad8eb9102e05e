use Rattle.graphql_lexer.proofs.DividedLaws.{places_are_positions}
use Rattle.graphql_lexer.proofs.laws.places_are_positions.Goals as goal

pub returns : goal.returns
returns c = places_are_positions
