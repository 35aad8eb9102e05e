use Rattle.std.proofs.Common.{◌≡◌, drop}
use Rattle.graphql_resolvers.specs.Asked.{as_id}
use Rattle.graphql_resolvers.proofs.EachItem.{before, read}
use Rattle.graphql_resolvers.proofs.leaf_lists.ids_in.Given as goal

-- what was found, and then what is left, is what the whole is
abbrev pub invariant-items : goal.invariant-items
invariant-items l = read as_id l.items ≡ before (l.ids.items) (read as_id (drop l.item-index l.items))
