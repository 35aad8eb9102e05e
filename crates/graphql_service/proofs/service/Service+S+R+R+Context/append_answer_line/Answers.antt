use Rattle.std.proofs.Common.{sym, ◌∙◌}
use Rattle.std.proofs.lemmas.Bool.{false≢true}
use Rattle.graphql_service.proofs.service.Service+S+R+R+Context.append_answer_line.Goals as goal

pub append_line-requires : goal.append_line-requires
append_line-requires g c = λ text kept document spelled. absurd (false≢true (sym (c.new-none.ensures text) ∙ kept))
