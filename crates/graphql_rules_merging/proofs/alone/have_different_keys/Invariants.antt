use Rattle.std.proofs.Common.{◌≡◌, drop}
use Rattle.graphql_rules_merging.specs.Alone.{keys_differ}
use Rattle.graphql_rules_merging.proofs.alone.have_different_keys.Given as goal

-- by those that are not gone past
abbrev pub invariant-loop-place : goal.invariant-loop-place
invariant-loop-place g l = keys_differ (drop l.place l.fields) ≡ keys_differ l.fields
