use Rattle.graphql_rules.proofs.LawLemmas.{fields_selected}
use Rattle.graphql_rules.proofs.laws.leaves_have_no_sets.Goals as goal

pub returns : goal.returns
returns g c = λ subject parts. fields_selected subject parts
