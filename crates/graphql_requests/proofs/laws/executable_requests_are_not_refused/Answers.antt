use Rattle.graphql_requests.proofs.Exclusive.{exclusive}
use Rattle.graphql_requests.proofs.laws.executable_requests_are_not_refused.Goals as goal

pub returns : goal.returns
returns g c = λ a document operation cmp refusal. exclusive _ a document operation cmp refusal
