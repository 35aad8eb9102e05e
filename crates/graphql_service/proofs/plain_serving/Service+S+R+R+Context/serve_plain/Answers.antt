use Rattle.std.proofs.Common.{refl}
use Rattle.graphql_streams.specs.Counts.{HasRisen}
use Rattle.graphql_service.proofs.ServedPlain.{ends-plain, serves-plain}
use Rattle.graphql_service.proofs.plain_serving.Service+S+R+R+Context.serve_plain.Goals as goal

pub returns-clause-served : goal.returns-clause-served
returns-clause-served g c =
    serves-plain _ c.args.self.now c.serve_lines.result _ c.serve_lines.new.engine refl _ _ _ _ c.serve_lines.ensures.ok

pub returns-clause-ended : goal.returns-clause-ended
returns-clause-ended g c =
    let f = g.O.ByteSink.faults in
    ends-plain _ c.args.self.now c.serve_lines.result _ c.serve_lines.new.engine refl _ _ _ _
    (HasRisen (f c.args.writer.now) (f c.serve_lines.new.writer)) c.serve_lines.ensures.err
