use Rattle.std.proofs.Common.{rules}
use Rattle.graphql_rules_merging.proofs.Tables.{no_row}
use Rattle.graphql_rules_merging.proofs.queue.is_empty_row.Goals as goal

pub returns-in-None : goal.returns-in-None
returns-in-None c = (λ _. no_row c.args.table.now c.args.right c.in-None.ensures.value, λ _. search rules)
