use Rattle.std.proofs.Common.{◌≤◌, take}
use Rattle.graphql_merging.specs.FieldNodes.{fields_written}
use Rattle.graphql_rules_merging.proofs.overlapping_fields_can_be_merged.count_fields.Given as goal

-- those of the sets so far
abbrev pub invariant-loop-set : goal.invariant-loop-set
invariant-loop-set g l = l.fields ≤ fields_written (take l.set-index l.set-items)
