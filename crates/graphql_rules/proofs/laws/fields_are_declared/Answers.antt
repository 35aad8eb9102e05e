use Rattle.graphql_rules.proofs.LawLemmas.{fields_declared}
use Rattle.graphql_rules.proofs.laws.fields_are_declared.Goals as goal

pub returns : goal.returns
returns g c = λ subject parts. fields_declared subject parts
