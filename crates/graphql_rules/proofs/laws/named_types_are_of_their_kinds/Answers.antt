use Rattle.graphql_rules.proofs.LawLemmas.{types_known_as}
use Rattle.graphql_rules.proofs.laws.named_types_are_of_their_kinds.Goals as goal

pub returns : goal.returns
returns g c = λ subject parts. types_known_as subject parts
