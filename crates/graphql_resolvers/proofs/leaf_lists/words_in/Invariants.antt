use Rattle.std.proofs.Common.{◌≡◌, drop, map}
use Rattle.graphql_resolvers.specs.Asked.{as_word}
use Rattle.graphql_resolvers.proofs.EachItem.{before, read}
use Rattle.graphql_resolvers.proofs.leaf_lists.words_in.Given as goal

-- what was found, and then what is left, is what the whole is
abbrev pub invariant-items : goal.invariant-items
invariant-items l = read as_word l.items ≡ before (map (λ w. w.now) l.words.items) (read as_word (drop l.item-index l.items))
