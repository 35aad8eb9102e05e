use Rattle.std.proofs.Common.{◌≡◌, length}
use Rattle.graphql_http.specs.Pieces.{pieces}
use Rattle.graphql_http.specs.Weights.{weight_among}
use Rattle.graphql_http.proofs.weights.weight_among.Given as goal

abbrev pub invariant-parameters : goal.invariant-parameters
invariant-parameters l = weight_among (pieces 59 l.rest) ≡ weight_among (pieces 59 l.parameters)

abbrev pub decreases-parameters : goal.decreases-parameters
decreases-parameters l = length l.rest
