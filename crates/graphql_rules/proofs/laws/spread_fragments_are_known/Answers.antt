use Rattle.graphql_rules.proofs.LawLemmas.{spreads_known}
use Rattle.graphql_rules.proofs.laws.spread_fragments_are_known.Goals as goal

pub returns : goal.returns
returns g c = λ subject parts. spreads_known subject parts
