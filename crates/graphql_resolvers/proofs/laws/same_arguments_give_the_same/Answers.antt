use Rattle.graphql_resolvers.proofs.SameGiven.{same-in-order, same-inputs}
use Rattle.graphql_resolvers.proofs.laws.same_arguments_give_the_same.Goals as goal

pub returns-clause-each : goal.returns-clause-each
returns-clause-each c = same-inputs

pub returns-clause-in_order : goal.returns-clause-in_order
returns-clause-in_order c = same-in-order
