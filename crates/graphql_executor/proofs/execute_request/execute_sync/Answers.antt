use Rattle.std.proofs.Common.{sym, ◌∙◌}
use Rattle.std.proofs.lemmas.Bool.{false≢true}
use Rattle.graphql_executor.proofs.execute_request.execute_sync.Goals as goal

pub execute_with-requires : goal.execute_with-requires
execute_with-requires g c = λ text kept document spelled. absurd (false≢true (sym (c.new-valid.ensures text) ∙ kept))
