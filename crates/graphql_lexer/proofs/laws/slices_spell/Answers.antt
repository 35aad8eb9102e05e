use Rattle.graphql_lexer.proofs.DividedLaws.{slices_spell}
use Rattle.graphql_lexer.proofs.laws.slices_spell.Goals as goal

pub returns : goal.returns
returns c = slices_spell
