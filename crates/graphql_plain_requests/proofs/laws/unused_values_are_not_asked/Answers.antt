use Rattle.graphql_plain_requests.proofs.UnusedValues.{unused-values-are-not-asked}
use Rattle.graphql_plain_requests.proofs.laws.unused_values_are_not_asked.Goals as goal

pub returns : goal.returns
returns g c = unused-values-are-not-asked _
