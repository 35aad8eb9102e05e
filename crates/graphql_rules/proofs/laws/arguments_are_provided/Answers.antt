use Rattle.graphql_rules.proofs.LawLemmas.{arguments_provided}
use Rattle.graphql_rules.proofs.laws.arguments_are_provided.Goals as goal

pub returns : goal.returns
returns g c = λ subject parts. arguments_provided subject parts
