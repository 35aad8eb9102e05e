use Rattle.std.proofs.Common.{◌≡◌, fold}
use Rattle.std.specs.Prelude.{codes}
use Rattle.http_header.specs.HeaderMap.{get_all}
use Rattle.graphql_http.specs.Accept as spec
use Rattle.graphql_http.proofs.accept.preference_in.Given as goal

abbrev pub invariant-loop-value : goal.invariant-loop-value
invariant-loop-value l =
    fold (spec.preference_after l.kind) l.preference (spec.elements l.value-iterator)
    ≡ spec.preference_in l.kind (get_all l.headers (codes "accept"))
