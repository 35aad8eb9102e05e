use Rattle.graphql_merging.proofs.Standing.{merging-is-agreement, disagreement-is-conflict, agreement-is-mutual}
use Rattle.graphql_merging.proofs.laws.merging_is_agreement.Goals as goal

pub returns-clause-agreement : goal.returns-clause-agreement
returns-clause-agreement g c = merging-is-agreement _

pub returns-clause-conflict : goal.returns-clause-conflict
returns-clause-conflict g c = disagreement-is-conflict _

pub returns-clause-mutual : goal.returns-clause-mutual
returns-clause-mutual g c = agreement-is-mutual _ _ _
