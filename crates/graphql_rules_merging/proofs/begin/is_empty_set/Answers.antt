use Rattle.std.proofs.Common.{sym, ◌∙◌}
use Rattle.graphql_merging.specs.Tables.{piece_field}
use Rattle.graphql_rules_merging.proofs.Numbered.{map_empty, direct_at}
use Rattle.graphql_rules_merging.proofs.begin.is_empty_set.Goals as goal

pub returns-else-is_empty : goal.returns-else-is_empty
returns-else-is_empty g c = λ fragments. (
  (λ yes. cc),
  (λ empty. c.is_empty.ensures.1
      (map_empty (piece_field fragments) c.in-Some.set.now.fields (sym (direct_at fragments c.args.table.now c.args.number c.in-Some.set.now c.in-Some.ensures) ∙ empty.0))),
)
