use Rattle.graphql_rules.proofs.LawLemmas.{types_known}
use Rattle.graphql_rules.proofs.laws.named_types_are_known.Goals as goal

pub returns : goal.returns
returns g c = λ subject parts. types_known subject parts
