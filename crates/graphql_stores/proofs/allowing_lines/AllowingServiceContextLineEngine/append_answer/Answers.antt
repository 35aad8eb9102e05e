use Rattle.graphql_stores.proofs.AllowingRuns.{appended, not-appended}
use Rattle.graphql_stores.proofs.allowing_lines.AllowingServiceContextLineEngine.append_answer.Goals as goal

pub returns-clause-answers : goal.returns-clause-answers
returns-clause-answers g c =
    appended c.append_line.result _ _ c.args.out.now.items c.append_line.new.out.items c.append_line.ensures.parts
    c.append_line.ensures.answers

pub returns-clause-breaks : goal.returns-clause-breaks
returns-clause-breaks g c =
    not-appended c.append_line.result _ _ c.args.out.now.items c.append_line.new.out.items c.append_line.ensures.parts
    c.append_line.ensures.broken c.append_line.ensures.kept
