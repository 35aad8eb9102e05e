use Rattle.graphql_lexer.proofs.DividedLaws.{spans_in_order}
use Rattle.graphql_lexer.proofs.laws.spans_in_order.Goals as goal

pub returns : goal.returns
returns c = spans_in_order
