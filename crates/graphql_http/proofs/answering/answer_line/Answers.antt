use Rattle.graphql_http.proofs.answering.answer_line.Goals as goal

pub append_answer-requires : goal.append_answer-requires
append_answer-requires g c = g.met.E.RequestEngine.always_holds c.args.engine.now
