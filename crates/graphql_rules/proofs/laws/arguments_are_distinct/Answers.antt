use Rattle.graphql_rules.proofs.LawLemmas.{arguments_distinct}
use Rattle.graphql_rules.proofs.laws.arguments_are_distinct.Goals as goal

pub returns : goal.returns
returns g c = λ subject parts. arguments_distinct subject parts
