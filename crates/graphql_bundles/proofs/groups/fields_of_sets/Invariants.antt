use Rattle.std.proofs.Common.{◌≡◌, take}
use Rattle.std.specs.List.{flat_map}
use Rattle.graphql_bundles.specs.Groups.{fields_in}
use Rattle.graphql_bundles.proofs.groups.fields_of_sets.Given as goal

abbrev pub invariant-loop-number : goal.invariant-loop-number
invariant-loop-number g l = l.fields ≡ flat_map (fields_in l.table) (take l.number-index l.sets)
