use Rattle.graphql_rules.proofs.LawLemmas.{directives_placed}
use Rattle.graphql_rules.proofs.laws.directives_may_stand.Goals as goal

pub returns : goal.returns
returns g c = λ subject parts. directives_placed subject parts
