use Rattle.graphql_written_out.proofs.Layers.{written-nil}
use Rattle.graphql_collect.proofs.CollectingLaws.{begins, ready-first}
use Rattle.graphql_collect.proofs.collecting.collect_below.Goals as goal

pub collect-requires-clause-ready : goal.collect-requires-clause-ready
collect-requires-clause-ready g c = ready-first g.S.ScalarValue.answer c.args.request.now c.args.object.now _ c.args.visited.now.keys c.args.found.now c.requires.complete

pub returns-in-None-clause-walked : goal.returns-in-None-clause-walked
returns-in-None-clause-walked g c = rw (c.in-None.is, written-nil) (begins g.S.ScalarValue.answer c.args.request.now c.args.object.now c.args.visited.now.keys c.args.found.now)
