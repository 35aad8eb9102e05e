use Rattle.std.proofs.Common.{arith, ap, drop, ◌∙◌, ◌+◌}
use Rattle.graphql_collect.specs.OpenSets.{rest_of}
use Rattle.graphql_collect.specs.Collecting.{trees_in}
use Rattle.graphql_collect.specs.Sizes.{size, turns}
use Rattle.graphql_collect.proofs.SizeLaws.{open-push, rest-next, rest-none, size-cons, turns-cons}
use Rattle.graphql_collect.proofs.CollectingLaws.{ends-set, goes-on}
use Rattle.graphql_collect.proofs.collecting.advance.Goals as goal

pub returns-in-None-clause-steps : goal.returns-in-None-clause-steps
returns-in-None-clause-steps g c =
    ends-set g.S.ScalarValue.answer c.args.request.now c.args.object.now (rest_of c.args.set.now)
    (trees_in c.args.request.now c.args.sets.now) c.args.visited.now.keys c.args.found.now
    (rest-none c.args.set.now c.in-None.ensures.lookup.3)

pub returns-in-None-clause-sized : goal.returns-in-None-clause-sized
returns-in-None-clause-sized g c = omega arith

pub returns-in-None-clause-turns : goal.returns-in-None-clause-turns
returns-in-None-clause-turns g c = omega arith

pub returns-in_ok-enter-in-Some-clause-steps : goal.returns-in_ok-enter-in-Some-clause-steps
returns-in_ok-enter-in-Some-clause-steps g c =
    let looked = c.in-Some.ensures.lookup in
    λ xs start l.
    c.in_ok-enter-in-Some.ensures.steps xs start
    (goes-on g.S.ScalarValue.answer c.args.request.now c.args.object.now c.args.sets.now c.push.new.self _
    c.in_ok-push-in-Some.ensures.ok c.in-Some.selection.now (rest_of c.args.set.now) c.args.visited.now.keys
    c.args.found.now (rest-next c.args.set.now c.in-Some.selection.now looked.3.0 looked.1) xs start l)

pub returns-in_ok-enter-in-Some-clause-sized : goal.returns-in_ok-enter-in-Some-clause-sized
returns-in_ok-enter-in-Some-clause-sized g c =
    let looked = c.in-Some.ensures.lookup in
    let behind = drop (c.args.set.now.next + 1) c.args.set.now.among.now in
    let whole =
    ap size (rest-next c.args.set.now c.in-Some.selection.now looked.3.0 looked.1)
    ∙ size-cons c.in-Some.selection.now behind in
    omega (
      arith,
      c.in_ok-enter-in-Some.ensures.sized,
      whole,
      open-push size c.args.sets.now c.push.new.self _ c.in_ok-push-in-Some.ensures.ok,
    )

pub returns-in_ok-enter-in-Some-clause-turns : goal.returns-in_ok-enter-in-Some-clause-turns
returns-in_ok-enter-in-Some-clause-turns g c =
    let looked = c.in-Some.ensures.lookup in
    let behind = drop (c.args.set.now.next + 1) c.args.set.now.among.now in
    let whole =
    ap turns (rest-next c.args.set.now c.in-Some.selection.now looked.3.0 looked.1)
    ∙ turns-cons c.in-Some.selection.now behind in
    omega (
      arith,
      c.in_ok-enter-in-Some.ensures.turns,
      whole,
      open-push turns c.args.sets.now c.push.new.self _ c.in_ok-push-in-Some.ensures.ok,
    )
