use Rattle.std.proofs.Common.{◌≡◌}
use Rattle.std.specs.Io.KnownBytes.{Keeps}
use Rattle.graphql_streams.proofs.piped.PipedByteSink.write_some.Given as goal

abbrev pub invariant-tries : goal.invariant-tries
invariant-tries g l = record {
  kept : Keeps (g.T.Write.contents l.fn.self.inner) (g.T.Write.contents l.self.inner);
  no_fault : l.self.faults ≡ l.fn.self.faults;
}
