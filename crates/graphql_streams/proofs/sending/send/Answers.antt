use Rattle.std.proofs.Common.{rules}
use Rattle.std.proofs.lemmas.List.{take_rest}
use Rattle.graphql_streams.proofs.StreamLemmas.{sent_more}
use Rattle.graphql_streams.proofs.sending.send.Goals as goal

pub rest-preserved : goal.rest-preserved
rest-preserved g c =
    (rw (take_rest c.rest.rest.now c.in-Ok.count) (sent_more (g.O.ByteSink.written c.args.writer.now) (g.O.ByteSink.written c.rest.writer) (g.O.ByteSink.written c.write_some.new.self) c.args.bytes.now c.rest.rest.now c.in-Ok.count c.rest.invariant.0 c.in-Ok.ensures.bytes), search rules)
