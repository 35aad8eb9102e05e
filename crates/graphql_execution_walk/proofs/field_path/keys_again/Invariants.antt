use Rattle.std.proofs.Common.{◌≡◌, take}
use Rattle.graphql_execution_walk.proofs.field_path.keys_again.Given as goal

abbrev pub invariant-loop-key : goal.invariant-loop-key
invariant-loop-key l = l.path ≡ take l.key-index l.keys
