use Rattle.graphql_rules.proofs.LawLemmas.{conditions_composite}
use Rattle.graphql_rules.proofs.laws.conditions_are_composite.Goals as goal

pub returns : goal.returns
returns g c = λ subject parts. conditions_composite subject parts
