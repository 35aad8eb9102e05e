use Rattle.graphql_streams.specs.Counts.{HasRisen}
use Rattle.graphql_streams.specs.Lines.{whole_lines}
use Rattle.graphql_streams.proofs.StreamLemmas.{stops-if}
use Rattle.graphql_streams.proofs.serving.answer_block.Goals as goal

pub returns-clause-err : goal.returns-clause-err
returns-clause-err g c = λ begun is.
    let E = g.E.LineEngine in
    let O = g.O.ByteSink in
    stops-if E.answers E.breaks (HasRisen (O.faults c.args.writer.now) (O.faults c.flush.new.writer)) c.args.engine.now
    c.feed-made.new.engine (whole_lines begun c.args.block.now) c.args.buffers.now.answers.items c.feed-made.new.buffers.answers.items
    (O.written c.args.writer.now) (O.written c.flush.new.writer) c.requires.none c.feed-made.result c.flush.result
    (c.feed-made.ensures.ok begun is) (c.feed-made.ensures.err begun is) c.flush.ensures.err
