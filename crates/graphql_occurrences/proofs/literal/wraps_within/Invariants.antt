use Rattle.std.proofs.Common.{◌≡◌, length}
use Rattle.graphql_schema.specs.TypeTypes.{within_list}
use Rattle.graphql_occurrences.proofs.literal.wraps_within.Given as goal

abbrev pub invariant-wraps : goal.invariant-wraps
invariant-wraps l = within_list l.left ≡ within_list l.initial.modifiers

abbrev pub decreases-wraps : goal.decreases-wraps
decreases-wraps l = length l.left
