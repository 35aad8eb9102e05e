use Rattle.std.proofs.Common.{◌≡◌, ◌++◌, ℕ, Option, drop}
use Rattle.graphql_resolvers.specs.Answers as spec
use Rattle.graphql_resolvers.proofs.KeptTurns.{left}
use Rattle.graphql_resolvers.proofs.lists.nodes_where.Given as goal

-- the nodes that were found, and then those of what is left, are those of the whole
abbrev pub invariant-places : goal.invariant-places
invariant-places g l =
    (wanted : ℕ → g.row.T.Denot → Option g.row.N.Denot) → spec.NodesBy wanted (goal.F-post g l.choose)
    → left wanted 0 l.items ≡ l.found ++ left wanted l.place (drop l.place l.items)
