use Rattle.graphql_rules.proofs.LawLemmas.{arguments_declared}
use Rattle.graphql_rules.proofs.laws.arguments_are_declared.Goals as goal

pub returns : goal.returns
returns g c = λ subject parts. arguments_declared subject parts
