use Rattle.graphql_lexer.proofs.GrammarLaws.{either_way}
use Rattle.graphql_lexer.proofs.laws.either_way.Goals as goal

pub returns : goal.returns
returns c = either_way
