use Rattle.graphql_grammar.proofs.Leaves.{behind_then}
use Rattle.graphql_value_syntax.proofs.value.key.Goals as goal

pub returns-clause-behind : goal.returns-clause-behind
returns-clause-behind c = behind_then c.in_ok-name.ensures.behind c.in_ok-expect.ensures.behind
