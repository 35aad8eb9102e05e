use Rattle.std.proofs.Common.{option_map, rules}
use Rattle.graphql_requests.proofs.prepared.chosen_operation.Goals as goal

-- the root is the one that is found
pub returns-clause-ready : goal.returns-clause-ready
returns-clause-ready g c = record {
  chosen = search rules;
  takes_values = search rules;
  root = option_map (λ name. name.now) c.in_ok-mutation_root.field-0;
  served = search rules;
}
