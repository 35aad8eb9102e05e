use Rattle.std.proofs.Common.{◌≡◌, false}
use Rattle.std.specs.List.{AllAdjacentBelow}
use Rattle.std.specs.Str.{bytes_eq}
use Rattle.graphql_names.proofs.name_map.repeated_neighbour.Given as goal

abbrev pub invariant-loop-place : goal.invariant-loop-place
invariant-loop-place g l = AllAdjacentBelow (λ x y. bytes_eq (g.T.Named.name_of x) (g.T.Named.name_of y) ≡ false) l.items l.place
