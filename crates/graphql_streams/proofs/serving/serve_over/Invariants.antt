use Rattle.std.proofs.Common.{◌≡◌, []}
use Rattle.graphql_streams.proofs.StreamLemmas.{Goes}
use Rattle.graphql_streams.proofs.serving.serve_over.Given as goal

abbrev pub invariant-reading : goal.invariant-reading
invariant-reading g l = record {
  goes : Goes g.E.LineEngine.answers l.limit l.buffers.line.items l.fn.engine (g.I.ByteSource.left l.fn.reader)
      (g.I.ByteSource.left l.reader) (g.O.ByteSink.written l.fn.writer) (g.O.ByteSink.written l.writer) l.engine;
  limit : l.limit ≡ g.E.LineEngine.limit l.engine;
  holds : g.E.LineEngine.holds l.engine;
  none : l.buffers.answers.items ≡ [];
  no_read_fault : g.I.ByteSource.faults l.reader ≡ g.I.ByteSource.faults l.fn.reader;
  no_write_fault : g.O.ByteSink.faults l.writer ≡ g.O.ByteSink.faults l.fn.writer;
}

abbrev pub decreases-reading : goal.decreases-reading
decreases-reading g l = g.I.ByteSource.bound l.reader
