use Rattle.std.proofs.Common.{◌≡◌, drop}
use Rattle.graphql_resolvers.specs.Asked.{as_int}
use Rattle.graphql_resolvers.proofs.EachItem.{before, read}
use Rattle.graphql_resolvers.proofs.leaf_lists.integers_in.Given as goal

-- what was found, and then what is left, is what the whole is
abbrev pub invariant-items : goal.invariant-items
invariant-items l = read as_int l.items ≡ before (l.integers.items) (read as_int (drop l.item-index l.items))
