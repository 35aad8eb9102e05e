use Rattle.graphql_validation.proofs.WellFormedLemmas.{well_formed}
use Rattle.graphql_validation.proofs.laws.documents_without_a_fault_are_well_formed.Goals as goal

pub returns : goal.returns
returns g c = λ subject h. well_formed _ subject h
