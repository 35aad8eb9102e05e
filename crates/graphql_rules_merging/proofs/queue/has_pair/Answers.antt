use Rattle.std.proofs.Common.{ap, sym, ◌∙◌}
use Rattle.graphql_rules_merging.specs.Numbers.{has_number}
use Rattle.graphql_rules_merging.proofs.Tables.{no_row, no_number}
use Rattle.graphql_rules_merging.proofs.queue.has_pair.Goals as goal

pub returns-in-None : goal.returns-in-None
returns-in-None c = sym (ap (λ words. has_number words c.args.left) (no_row c.args.table.now c.args.right c.in-None.ensures.value) ∙ no_number c.args.left)
