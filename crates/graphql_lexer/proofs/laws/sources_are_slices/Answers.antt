use Rattle.graphql_lexer.proofs.DividedLaws.{sources_are_slices}
use Rattle.graphql_lexer.proofs.laws.sources_are_slices.Goals as goal

pub returns : goal.returns
returns c = sources_are_slices
