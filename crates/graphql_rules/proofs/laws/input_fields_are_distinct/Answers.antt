use Rattle.graphql_rules.proofs.LawLemmas.{input_fields_distinct}
use Rattle.graphql_rules.proofs.laws.input_fields_are_distinct.Goals as goal

pub returns : goal.returns
returns g c = λ subject parts. input_fields_distinct subject parts
