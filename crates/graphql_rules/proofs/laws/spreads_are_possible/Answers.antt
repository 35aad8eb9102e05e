use Rattle.graphql_rules.proofs.LawLemmas.{spreads_possible}
use Rattle.graphql_rules.proofs.laws.spreads_are_possible.Goals as goal

pub returns : goal.returns
returns g c = λ subject parts. spreads_possible subject parts
