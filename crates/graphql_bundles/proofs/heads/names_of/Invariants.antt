use Rattle.std.proofs.Common.{◌≡◌, take}
use Rattle.graphql_bundles.specs.Groups.{names_in}
use Rattle.graphql_bundles.proofs.heads.names_of.Given as goal

abbrev pub invariant-loop-field : goal.invariant-loop-field
invariant-loop-field g l = l.names.keys ≡ names_in (take l.field-index l.group)
