use Rattle.graphql_streams.specs.Counts.{HasRisen}
use Rattle.graphql_stores.proofs.CachedRuns.{ends-contexts, keeps-still, serves-contexts}
use Rattle.graphql_stores.proofs.cached_lines.AnswerCache+S+R+R+Context.serve.Goals as goal

pub returns-clause-served : goal.returns-clause-served
returns-clause-served g c = λ keeps.
    serves-contexts _ c.serve_lines.result c.args.self.now c.serve_lines.new.engine _ _ _ _ keeps c.serve_lines.ensures.ok

pub returns-clause-ended : goal.returns-clause-ended
returns-clause-ended g c = λ keeps.
    let f = g.O.ByteSink.faults in
    ends-contexts _ c.serve_lines.result c.args.self.now c.serve_lines.new.engine _ _ _ _ keeps
    (HasRisen (f c.args.writer.now) (f c.serve_lines.new.writer)) c.serve_lines.ensures.err

pub returns-clause-keeps : goal.returns-clause-keeps
returns-clause-keeps g c = λ keeps.
    let f = g.O.ByteSink.faults in
    keeps-still _ c.serve_lines.result c.args.self.now c.serve_lines.new.engine _ _ _ _ keeps
    (HasRisen (f c.args.writer.now) (f c.serve_lines.new.writer)) c.serve_lines.ensures.ok c.serve_lines.ensures.err
