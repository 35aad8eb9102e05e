use Rattle.std.proofs.Common.{◌≡◌, ◌+◌, ◌-◌, ◌≤◌, length, drop}
use Rattle.graphql_http.specs.Pieces.{Outside, end_from}
use Rattle.graphql_http.proofs.pieces.end_of_piece.Given as goal

abbrev pub invariant-bytes : goal.invariant-bytes
invariant-bytes l = record {
  within : l.end ≤ length l.text;
  so_far : end_from Outside l.separator l.text ≡ l.end + end_from l.quoting l.separator (drop l.end l.text);
}

abbrev pub decreases-bytes : goal.decreases-bytes
decreases-bytes l = length l.text - l.end
