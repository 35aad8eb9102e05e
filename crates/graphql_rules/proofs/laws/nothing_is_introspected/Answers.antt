use Rattle.graphql_rules.proofs.LawLemmas.{no_introspection}
use Rattle.graphql_rules.proofs.laws.nothing_is_introspected.Goals as goal

pub returns : goal.returns
returns g c = λ subject parts. no_introspection subject parts
