use Rattle.graphql_lexer.proofs.GrammarLaws.{not_both}
use Rattle.graphql_lexer.proofs.laws.not_both.Goals as goal

pub returns : goal.returns
returns c = not_both
