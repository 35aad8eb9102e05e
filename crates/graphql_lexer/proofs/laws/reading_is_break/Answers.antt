use Rattle.graphql_lexer.proofs.GrammarLaws.{reading_is_break}
use Rattle.graphql_lexer.proofs.laws.reading_is_break.Goals as goal

pub returns : goal.returns
returns c = reading_is_break
