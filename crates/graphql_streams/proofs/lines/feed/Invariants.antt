use Rattle.std.proofs.Common.{◌≡◌, ℕ, List, length}
use Rattle.graphql_streams.specs.Lines.{kept_of}
use Rattle.graphql_streams.proofs.RunLemmas.{Feeding}
use Rattle.graphql_streams.proofs.lines.feed.Given as goal

abbrev pub invariant-lines : goal.invariant-lines
invariant-lines g l = record {
  feeding : (begun : List ℕ) → l.fn.buffers.line.items ≡ kept_of l.limit begun
      → Feeding g.E.LineEngine.answers l.limit begun l.block l.rest l.fn.engine l.fn.buffers.answers.items
      l.buffers.line.items l.buffers.answers.items l.engine;
  limit : l.limit ≡ g.E.LineEngine.limit l.engine;
  holds : g.E.LineEngine.holds l.engine;
}

abbrev pub decreases-lines : goal.decreases-lines
decreases-lines g l = length l.rest
