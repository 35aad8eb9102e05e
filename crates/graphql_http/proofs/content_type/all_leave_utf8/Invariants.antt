use Rattle.std.proofs.Common.{◌≡◌, length}
use Rattle.std.specs.List.{list_all}
use Rattle.graphql_http.specs.Pieces.{pieces}
use Rattle.graphql_http.specs.ContentType.{leaves_utf8}
use Rattle.graphql_http.proofs.content_type.all_leave_utf8.Given as goal

abbrev pub invariant-parameters : goal.invariant-parameters
invariant-parameters l = list_all leaves_utf8 (pieces 59 l.rest) ≡ list_all leaves_utf8 (pieces 59 l.parameters)

abbrev pub decreases-parameters : goal.decreases-parameters
decreases-parameters l = length l.rest
