use Rattle.std.proofs.Common.{arith, ap, ◌≡◌, ◌+◌, []}
use Rattle.std.specs.List.{sum_by}
use Rattle.graphql_collect.specs.OpenSets.{rests}
use Rattle.graphql_collected.specs.Requests.{fields_in, written_in}
use Rattle.graphql_collect.specs.Collecting.{state}
use Rattle.graphql_collect.specs.Sizes.{size, size_open, turns}
use Rattle.graphql_collect.proofs.SizeLaws.{open-push}
use Rattle.graphql_collect.proofs.CollectingLaws.{goes-back, leads-now, leads-last}
use Rattle.graphql_collect.proofs.collecting.collect.Goals as goal

pub sets-init : goal.sets-init
sets-init g c =
    let none : c.new-sets.result ≡ [] = c.new-sets.ensures in
    let first : sum_by size (rests c.push.new.self) ≡ size c.args.set.now + sum_by size (rests c.new-sets.result) =
    open-push size c.new-sets.result c.push.new.self _ c.in_ok-push.ensures.ok in
    let others : sum_by size (rests c.new-sets.result) ≡ 0 = ap (λ zs. sum_by size (rests zs)) none in
    record {
      leads = leads-now g.S.ScalarValue.answer c.args.request.now c.args.object.now _ c.new-sets.result
          c.push.new.self c.args.visited.now.keys c.args.found.now none c.in_ok-push.ensures.ok c.requires.ready;
      sized = omega (arith, first, others);
    }

pub sets-smaller : goal.sets-smaller
sets-smaller g c = omega (
  arith,
  c.in_ok-advance.ensures.turns,
  open-push turns c.pop.new.self c.sets.sets c.in-Some.innermost c.in-Some.ensures,
)

pub sets-preserved : goal.sets-preserved
sets-preserved g c = record {
  leads = c.in_ok-advance.ensures.steps (fields_in g.S.ScalarValue.answer c.args.request.now c.args.object.now (written_in c.args.request.now c.args.set.now))
      (state c.args.request.now c.args.visited.now.keys c.args.found.now)
      (goes-back g.S.ScalarValue.answer c.args.request.now c.args.object.now c.pop.new.self c.sets.sets c.in-Some.innermost
      c.in-Some.ensures _ _ c.sets.visited.keys c.sets.found c.sets.invariant.leads);
  sized = omega (
    arith,
    c.in_ok-advance.ensures.sized,
    open-push size c.pop.new.self c.sets.sets c.in-Some.innermost c.in-Some.ensures,
    c.sets.invariant.sized,
  );
}

pub returns-clause-walked : goal.returns-clause-walked
returns-clause-walked g c =
    leads-last g.S.ScalarValue.answer c.args.request.now c.args.object.now _ c.args.visited.now.keys c.args.found.now c.sets.sets c.sets.visited.keys c.sets.found
    c.in_default.ensures.0 c.sets.invariant.leads

pub returns-clause-sized : goal.returns-clause-sized
returns-clause-sized g c =
    let none : size_open c.sets.sets ≡ 0 = ap size_open c.in_default.ensures.0 in
    omega (arith, none, c.sets.invariant.sized)
