use Rattle.std.proofs.Common.{◌≡◌, length}
use Rattle.graphql_streams.specs.Served.{Sent}
use Rattle.graphql_streams.proofs.sending.send.Given as goal

abbrev pub invariant-rest : goal.invariant-rest
invariant-rest g l = Sent (g.O.ByteSink.written l.initial.writer) (g.O.ByteSink.written l.writer) l.bytes l.rest × (g.O.ByteSink.faults l.writer ≡ g.O.ByteSink.faults l.initial.writer)

abbrev pub decreases-rest : goal.decreases-rest
decreases-rest g l = length l.rest
