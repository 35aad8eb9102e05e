use Rattle.std.proofs.Common.{◌≡◌, map, take}
use Rattle.graphql_field_results.specs.declared.resolved.Resolved.TheVariants as resolved
use Rattle.graphql_resolvers.proofs.answers.nodes.Given as goal

abbrev pub invariant-nodes : goal.invariant-nodes
invariant-nodes g l = l.items ≡ map (λ n. resolved.Node n) (take l.node-index l.nodes)
