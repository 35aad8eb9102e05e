use Rattle.std.proofs.Common.{◌≡◌, ◌≤◌, length}
use Rattle.graphql_http.specs.Pieces.{pieces}
use Rattle.graphql_http.proofs.pieces.next_piece.Given as goal

abbrev pub invariant-pieces : goal.invariant-pieces
invariant-pieces l = record {
  same : pieces l.separator l.rest ≡ pieces l.separator l.text;
  within : length l.rest ≤ length l.text;
}

abbrev pub decreases-pieces : goal.decreases-pieces
decreases-pieces l = length l.rest
