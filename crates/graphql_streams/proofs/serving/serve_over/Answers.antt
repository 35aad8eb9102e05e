use Rattle.std.proofs.Common.{rules, ◌≡◌, ℕ, Err, ap, subst, take, sym, ◌∙◌}
use Rattle.std.specs.Io.KnownBytes.{Consumes}
use Rattle.std.specs.Prelude.{IfErr}
use Rattle.graphql_streams.specs.Counts.{HasRisen, risen}
use Rattle.graphql_streams.specs.Served.{Ends, WritesAfter}
use Rattle.graphql_streams.proofs.StreamLemmas.{end-stops_if, goes-end_if, goes-more, goes-stops}
use Rattle.graphql_streams.proofs.serving.serve_over.Goals as goal

pub reading-preserved : goal.reading-preserved
reading-preserved g c =
    let r = g.I.ByteSource.left in
    let w = g.O.ByteSink.written in
    let b = c.reading in
    record {
      goes = goes-more g.E.LineEngine.answers c.line_limit-limit.result b.buffers.line.items c.args.engine.now b.engine
          (r c.args.reader.now) (r b.reader) (w c.args.writer.now) (w b.writer) b.invariant.goes
          c.answer_block.new.buffers.line.items (take c.in-Ok.count c.read_some.new.buffer) c.answer_block.new.engine
          (r c.read_some.new.self) (w c.answer_block.new.writer) c.in-Ok.ensures.bytes.0 c.in-Ok-answer_block.ensures.ok
          c.in-Ok-answer_block.ensures.kept;
      limit = b.invariant.limit ∙ sym c.in-Ok-answer_block.ensures.limit;
      holds = c.in-Ok-answer_block.ensures.holds;
      none = c.in-Ok-answer_block.ensures.none;
      no_read_fault = search rules;
      no_write_fault = search rules;
    }

pub returns-in-Err-answer_block-clause-err : goal.returns-in-Err-answer_block-clause-err
returns-in-Err-answer_block-clause-err g c =
    let r = g.I.ByteSource.left in
    let w = g.O.ByteSink.written in
    let b = c.reading in
    let f = g.O.ByteSink.faults in
    let P : ℕ → Type 0 = λ n.
    Ends g.E.LineEngine.answers g.E.LineEngine.breaks (HasRisen n (f c.answer_block.new.writer)) c.in-Err-answer_block.error
    c.args.engine.now (r c.args.reader.now) (r c.read_some.new.self) (w c.args.writer.now) (w c.answer_block.new.writer)
    c.answer_block.new.engine in
    subst P b.invariant.no_write_fault
    (goes-stops g.E.LineEngine.answers g.E.LineEngine.breaks (HasRisen (f b.writer) (f c.answer_block.new.writer))
    c.line_limit-limit.result b.buffers.line.items
    c.args.engine.now b.engine (r c.args.reader.now) (r b.reader) (w c.args.writer.now) (w b.writer) b.invariant.goes
    c.in-Err-answer_block.error (take c.in-Ok.count c.read_some.new.buffer) c.answer_block.new.engine (r c.read_some.new.self)
    (w c.answer_block.new.writer) c.in-Ok.ensures.bytes.0 c.in-Err-answer_block.ensures.err)

pub returns-in-Ok-eq0-clause-ok : goal.returns-in-Ok-eq0-clause-ok
returns-in-Ok-eq0-clause-ok g c =
    let r = g.I.ByteSource.left in
    let w = g.O.ByteSink.written in
    let b = c.reading in
    let none : c.in-Ok-eq0.field-0 ≡ 0 = search rules in
    let P : ℕ → Type 0 = λ n. Consumes (r b.reader) (r c.read_some.new.self) (take n c.read_some.new.buffer) in
    goes-end_if g.E.LineEngine.answers c.line_limit-limit.result b.buffers.line.items c.args.engine.now b.engine
    (r c.args.reader.now) (r b.reader) (w c.args.writer.now) (w b.writer) b.invariant.goes c.answer_rest.result
    c.answer_rest.new.engine (r c.read_some.new.self) (w c.answer_rest.new.writer)
    (subst P none c.in-Ok-eq0.ensures.bytes.0) (c.in-Ok-eq0.ensures.bytes.1 none (search rules)) c.answer_rest.ensures.ok

pub returns-in-Ok-eq0-clause-err : goal.returns-in-Ok-eq0-clause-err
returns-in-Ok-eq0-clause-err g c =
    let r = g.I.ByteSource.left in
    let w = g.O.ByteSink.written in
    let b = c.reading in
    let none : c.in-Ok-eq0.field-0 ≡ 0 = search rules in
    let P : ℕ → Type 0 = λ n. Consumes (r b.reader) (r c.read_some.new.self) (take n c.read_some.new.buffer) in
    let f = g.O.ByteSink.faults in
    let Q : ℕ → Type 0 = λ n.
    IfErr c.answer_rest.result (λ e. Ends g.E.LineEngine.answers g.E.LineEngine.breaks (HasRisen n (f c.answer_rest.new.writer)) e
    c.args.engine.now (r c.args.reader.now) (r c.read_some.new.self) (w c.args.writer.now) (w c.answer_rest.new.writer)
    c.answer_rest.new.engine) in
    subst Q b.invariant.no_write_fault
    (end-stops_if g.E.LineEngine.answers g.E.LineEngine.breaks (HasRisen (f b.writer) (f c.answer_rest.new.writer))
    c.line_limit-limit.result b.buffers.line.items
    c.args.engine.now b.engine (r c.args.reader.now) (r b.reader) (w c.args.writer.now) (w b.writer) b.invariant.goes
    c.answer_rest.result c.answer_rest.new.engine (r c.read_some.new.self) (w c.answer_rest.new.writer)
    (subst P none c.in-Ok-eq0.ensures.bytes.0) (c.in-Ok-eq0.ensures.bytes.1 none (search rules)) c.answer_rest.ensures.err)

pub returns-in-Err-answer_block-clause-writes : goal.returns-in-Err-answer_block-clause-writes
returns-in-Err-answer_block-clause-writes g c =
    let P : ℕ → Type 0 = λ n. WritesAfter {A = Unit {0}} (Err c.in-Err-answer_block.error) n (g.O.ByteSink.faults c.answer_block.new.writer) in
    subst P c.reading.invariant.no_write_fault c.in-Err-answer_block.ensures.faults

pub returns-in-Ok-eq0-clause-writes : goal.returns-in-Ok-eq0-clause-writes
returns-in-Ok-eq0-clause-writes g c =
    let P : ℕ → Type 0 = λ n. WritesAfter c.answer_rest.result n (g.O.ByteSink.faults c.answer_rest.new.writer) in
    subst P c.reading.invariant.no_write_fault c.answer_rest.ensures.faults

pub returns-in-Err-clause-ok : goal.returns-in-Err-clause-ok
returns-in-Err-clause-ok g c = tt

pub returns-in-Err-clause-reads : goal.returns-in-Err-clause-reads
returns-in-Err-clause-reads g c = c.in-Err.ensures.faults ∙ ap risen c.reading.invariant.no_read_fault
