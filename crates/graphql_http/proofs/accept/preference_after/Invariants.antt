use Rattle.std.proofs.Common.{◌≡◌, length, fold}
use Rattle.graphql_http.specs.Accept as spec
use Rattle.graphql_http.specs.Pieces.{pieces}
use Rattle.graphql_http.proofs.accept.preference_after.Given as goal

abbrev pub invariant-elements : goal.invariant-elements
invariant-elements l =
    fold (spec.preference_after l.kind) l.preference (pieces 44 l.rest)
    ≡ fold (spec.preference_after l.kind) l.fn.said (pieces 44 l.value)

abbrev pub decreases-elements : goal.decreases-elements
decreases-elements l = length l.rest
