use Rattle.std.proofs.Common.{◌+◌}
use Rattle.std.proofs.lemmas.List.{take_rest}
use Rattle.graphql_stores.proofs.ReadLines.{handed-here, read-all, read-first, read-more}
use Rattle.graphql_stores.proofs.allowed_queries.AllowedQueries.read.Goals as goal

pub lines-init : goal.lines-init
lines-init c = read-first c.args.file.now c.new-store.result c.new-store.ensures

pub lines-preserved : goal.lines-preserved
lines-preserved c =
    let rest = c.lines.rest.now in
    let end = c.in-Some.end in
    rw (take_rest rest (end + 1)) (read-more c.args.file.now rest c.lines.before c.lines.store c.take_line.new.self end
    c.lines.invariant c.in-Some.ensures.ends c.in-Some.ensures.within c.in_ok-take_line.ensures.0 c.in_ok-take_line.ensures.1)

pub returns-in_err-take_line : goal.returns-in_err-take_line
returns-in_err-take_line c =
    handed-here c.args.file.now c.lines.rest.now c.lines.before c.lines.store c.take_line.new.self c.in-Some.end c.from_residual.result
    c.in_err-take_line.field-0.0 c.from_residual.ensures.1 c.lines.invariant c.in-Some.ensures.ends c.in_err-take_line.ensures

pub returns : goal.returns
returns c =
    read-all c.args.file.now c.lines.rest.now c.lines.before c.lines.store c.take_line-2.new.self c.lines.invariant c.in_default.ensures.ends
    c.in_ok-take_line-2.ensures.0 c.in_ok-take_line-2.ensures.1
