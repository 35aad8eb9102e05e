use Rattle.graphql_rules.proofs.LawLemmas.{fields_declared_and_selected}
use Rattle.graphql_rules.proofs.laws.fields_are_declared_and_fit.Goals as goal

pub returns : goal.returns
returns g c = λ subject parts. fields_declared_and_selected subject parts
