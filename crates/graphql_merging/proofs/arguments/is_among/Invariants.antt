use Rattle.std.proofs.Common.{◌≡◌}
use Rattle.std.specs.List.{AllWithin}
use Rattle.graphql_tree.specs.Arguments.{Argument}
use Rattle.graphql_values.specs.SameValue.{SameValue}
use Rattle.graphql_merging.proofs.arguments.is_among.Given as goal

abbrev pub invariant-loop-other : goal.invariant-loop-other
invariant-loop-other g l = AllWithin (λ (y : Argument g.row.S.Denot). (l.argument.0.item ≡ y.0.item) × SameValue _ g.S.PartialEq.eq l.argument.1.item y.1.item → ⊥) l.others 0 l.other-index
