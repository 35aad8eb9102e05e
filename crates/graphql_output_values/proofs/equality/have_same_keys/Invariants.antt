use Rattle.std.proofs.Common.{◌≡◌, length, take}
use Rattle.std.specs.Map.{keys_of}
use Rattle.graphql_output_values.proofs.equality.have_same_keys.Given as goal

abbrev pub invariant-loop-place : goal.invariant-loop-place
invariant-loop-place g l = record {
  same : keys_of (take l.place l.mine.fields) ≡ keys_of (take l.place l.others);
  many : length l.mine.fields ≡ length l.others;
}
