use Rattle.graphql_lexer.proofs.DividedLaws.{fault_is_position}
use Rattle.graphql_lexer.proofs.laws.fault_is_position.Goals as goal

pub returns : goal.returns
returns c = fault_is_position
