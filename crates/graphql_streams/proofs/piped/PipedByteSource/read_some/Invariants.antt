use Rattle.std.proofs.Common.{◌≡◌, ◌-◌, ◌≤◌}
use Rattle.std.specs.Io.KnownBytes.{Keeps}
use Rattle.graphql_streams.proofs.piped.PipedByteSource.read_some.Given as goal

abbrev pub invariant-tries : goal.invariant-tries
invariant-tries g l = record {
  kept : Keeps (g.T.Read.remaining l.fn.self.inner) (g.T.Read.remaining l.self.inner);
  no_fault : l.self.faults ≡ l.fn.self.faults;
  more : l.fn.self.reads ≤ l.self.reads;
}

abbrev pub decreases-tries : goal.decreases-tries
decreases-tries g l = 18446744073709551615 - l.self.reads
