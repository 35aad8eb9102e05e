use Rattle.std.proofs.Common.{rules, ap, map, ◌≡◌, []}
use Rattle.graphql_collected.specs.Requests.{drops_in, fragments_in}
use Rattle.graphql_look_ahead.specs.Open.{open_set, opened}
use Rattle.graphql_look_ahead.specs.Told.{looked_at, with_request}
use Rattle.graphql_look_ahead.proofs.OpenLemmas.{opened-push, steps-pop, steps-whole}
use Rattle.graphql_look_ahead.proofs.gathering.gather.Goals as goal

pub open-preserved : goal.open-preserved
open-preserved g c =
    steps-pop (drops_in g.S.ScalarValue.answer c.args.request.now) (fragments_in c.args.request.now) (with_request c.args.request.now) c.args.set.now
    (map looked_at c.args.found.now) (map looked_at c.open.found) (map looked_at c.advance.new.found) (opened c.open.open) (opened c.advance.new.open)
    (open_set c.in-Some.top) (opened c.pop.new.self) (opened-push c.pop.new.self c.open.open c.in-Some.top c.in-Some.ensures)
    c.open.invariant c.in_ok-advance.ensures.steps

pub returns : goal.returns
returns g c =
    let none : c.open.open ≡ [] = search rules in
    steps-whole (drops_in g.S.ScalarValue.answer c.args.request.now) (fragments_in c.args.request.now) (with_request c.args.request.now) c.args.set.now
    (map looked_at c.args.found.now) (map looked_at c.open.found) (opened c.open.open) (ap opened none) c.open.invariant
