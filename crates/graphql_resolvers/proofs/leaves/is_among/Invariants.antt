use Rattle.std.proofs.Common.{◌≡◌, drop, map}
use Rattle.graphql_resolvers.specs.Asked.{is_among}
use Rattle.graphql_resolvers.proofs.leaves.is_among.Given as goal

-- it is among those that are left, if at all
abbrev pub invariant-words : goal.invariant-words
invariant-words l = is_among l.word (map (λ other. other.now) l.words) ≡ is_among l.word (map (λ other. other.now) (drop l.other-index l.words))
