use Rattle.std.specs.List.{AllWithin}
use Rattle.graphql_merging.specs.Merging.{IsAmong}
use Rattle.graphql_merging.proofs.arguments.are_among.Given as goal

abbrev pub invariant-loop-argument : goal.invariant-loop-argument
invariant-loop-argument g l = AllWithin (IsAmong g.S.PartialEq.eq l.others) l.arguments 0 l.argument-index
