use Rattle.std.proofs.Common.{string_bytes}
use Rattle.graphql_stores.proofs.ReadOnce.{has-plain}
use Rattle.graphql_stores.proofs.reading.AnswerCache+S+R+R+Context.answer_accepted.Goals as goal

pub answer_plain-requires-clause-has : goal.answer_plain-requires-clause-has
answer_plain-requires-clause-has g c =
    has-plain _ c.args.line.now c.args.accepted.now c.args.records.now c.requires
    c.selection_limit.result _ c.selection_limit.ensures (string_bytes c.in-Ok.printed.text)
    c.in-Ok.printed.used.keys c.in-Ok.ensures.plain c.in-Ok.ensures.uses

pub plain_of_chosen-requires : goal.plain_of_chosen-requires
plain_of_chosen-requires g c = c.requires.asks.settled

pub answer_other-requires : goal.answer_other-requires
answer_other-requires g c = c.requires.asks.settled

pub returns : goal.returns
returns g c = c.answer_other.ensures c.args.line.now c.requires.asks.executes
