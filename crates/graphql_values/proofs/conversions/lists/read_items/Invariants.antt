use Rattle.std.proofs.Common.{map, take}
use Rattle.std.specs.List.{AllZip}
use Rattle.graphql_values.proofs.conversions.lists.read_items.Given as goal

abbrev pub invariant-items : goal.invariant-items
invariant-items g l = AllZip g.T.FromInputValue.means (map (λ x. x.item) (take l.item-index l.items)) l.meant.items
