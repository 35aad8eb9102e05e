use Rattle.graphql_grammar.proofs.Leaves.{behind_then}
use Rattle.graphql_value_syntax.proofs.value.variable.Goals as goal

pub returns-in_err-from_str-clause-behind : goal.returns-in_err-from_str-clause-behind
returns-in_err-from_str-clause-behind g c = behind_then c.in_ok-expect.ensures.behind c.in_ok-name.ensures.behind

pub returns-clause-behind : goal.returns-clause-behind
returns-clause-behind g c = behind_then c.in_ok-expect.ensures.behind c.in_ok-name.ensures.behind
