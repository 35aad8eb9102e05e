use Rattle.graphql_requests.proofs.Steps.{executed-at-no-step, one-step-refuses, refusals-have-steps}
use Rattle.graphql_requests.proofs.laws.refusals_have_steps.Goals as goal

pub returns-clause-steps : goal.returns-clause-steps
returns-clause-steps g c = refusals-have-steps _

pub returns-clause-one : goal.returns-clause-one
returns-clause-one g c = one-step-refuses _

pub returns-clause-executed : goal.returns-clause-executed
returns-clause-executed g c = executed-at-no-step _
