use Rattle.std.proofs.Common.{◌≡◌, ◌+◌, ◌-◌, ◌*◌, take}
use Rattle.graphql_bundles.specs.Counted.{repeats_in_groups}
use Rattle.graphql_bundles.proofs.pass.has_room.Given as goal

-- the groups so far
abbrev pub invariant-loop-group : goal.invariant-loop-group
invariant-loop-group g l = l.room + 2 * repeats_in_groups (take l.group-index l.groups) ≡ l.most - l.comparisons
