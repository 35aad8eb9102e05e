use Rattle.graphql_lexer.proofs.DividedLaws.{differ_in_places}
use Rattle.graphql_lexer.proofs.laws.differ_in_places.Goals as goal

pub returns : goal.returns
returns c = differ_in_places
