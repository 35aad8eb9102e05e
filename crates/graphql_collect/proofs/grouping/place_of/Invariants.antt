use Rattle.std.specs.Str.{bytes_eq}
use Rattle.graphql_collect.proofs.Keyed.{ArePassed}
use Rattle.graphql_collect.proofs.grouping.place_of.Given as goal

abbrev pub invariant-groups : goal.invariant-groups
invariant-groups g l = ArePassed (bytes_eq l.key) l.groups l.place
