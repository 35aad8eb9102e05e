use Rattle.std.proofs.Common.{◌≡◌, drop}
use Rattle.graphql_resolvers.specs.Inputs.{field_named}
use Rattle.graphql_resolvers.proofs.given.field_named.Given as goal

abbrev pub invariant-loop-pair : goal.invariant-loop-pair
invariant-loop-pair l = field_named l.pairs l.name ≡ field_named (drop l.pair-index l.pairs) l.name
