use Rattle.graphql_streams.specs.Counts.{HasRisen}
use Rattle.graphql_stores.proofs.AllowingRuns.{ends-allowed, parts-stay, serves-allowed}
use Rattle.graphql_stores.proofs.allowing_lines.AllowingService+S+R+R+Context.serve.Goals as goal

pub returns-clause-served : goal.returns-clause-served
returns-clause-served g c =
    serves-allowed _ c.serve_lines.result c.args.self.now c.serve_lines.new.engine _ _ _ _ c.serve_lines.ensures.ok

pub returns-clause-ended : goal.returns-clause-ended
returns-clause-ended g c =
    let f = g.O.ByteSink.faults in
    ends-allowed _ c.serve_lines.result c.args.self.now c.serve_lines.new.engine _ _ _ _
    (HasRisen (f c.args.writer.now) (f c.serve_lines.new.writer)) c.serve_lines.ensures.err

pub returns-clause-parts : goal.returns-clause-parts
returns-clause-parts g c =
    let f = g.O.ByteSink.faults in
    parts-stay _ c.serve_lines.result c.args.self.now c.serve_lines.new.engine _ _ _ _
    (HasRisen (f c.args.writer.now) (f c.serve_lines.new.writer)) c.serve_lines.ensures.ok c.serve_lines.ensures.err
