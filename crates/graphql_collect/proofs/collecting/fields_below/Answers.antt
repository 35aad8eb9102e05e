use Rattle.std.proofs.Common.{ℕ, rules, arith, ap, ◌≡◌, ◌<◌, length, List, []}
use Rattle.graphql_collected.specs.Requests.{fragments_in}
use Rattle.graphql_collect.specs.Sizes.{left_in}
use Rattle.graphql_collect.proofs.SizeLaws.{below-more}
use Rattle.graphql_collect.proofs.CollectingLaws.{begins, ends, complete-first, complete-now, more-below}
use Rattle.graphql_collect.proofs.collecting.fields_below.Goals as goal

pub loop-occurrence-init : goal.loop-occurrence-init
loop-occurrence-init g c =
    let none_visited : c.new-visited.result.keys ≡ [] = search rules in
    let none_found : c.in_ok-found.found ≡ [] = c.in_ok-found.ensures in
    let same : left_in c.new-visited.result.keys (fragments_in c.args.request.now) ≡ left_in [] (fragments_in c.args.request.now) = ap (λ (z : List (List ℕ)). left_in z (fragments_in c.args.request.now)) none_visited in
    let short : length c.in_ok-found.found ≡ 0 = ap length none_found in
    record {
      walked = ends g.S.ScalarValue.answer c.args.request.now c.args.object.now [] [] [] [] [] c.new-visited.result.keys c.in_ok-found.found none_visited none_found
          (begins g.S.ScalarValue.answer c.args.request.now c.args.object.now [] []);
      sized = omega (arith, same, short);
    }

pub collect_below-requires-clause-complete : goal.collect_below-requires-clause-complete
collect_below-requires-clause-complete g c =
    complete-now g.S.ScalarValue.answer c.args.request.now c.args.object.now _ [] [] c.loop-occurrence.visited.keys c.loop-occurrence.found
    (complete-first g.S.ScalarValue.answer c.args.request.now c.args.object.now) c.loop-occurrence.invariant.walked

pub loop-occurrence-preserved : goal.loop-occurrence-preserved
loop-occurrence-preserved g c =
    let within : c.loop-occurrence.occurrence-index < length c.args.group.now = omega arith in
    record {
      walked = more-below g.S.ScalarValue.answer c.args.request.now c.args.object.now c.args.group.now c.loop-occurrence.occurrence-index c.occurrence-item.result [] []
          c.loop-occurrence.visited.keys c.loop-occurrence.found c.collect_below.new.visited.keys c.collect_below.new.found within c.occurrence-item.is c.loop-occurrence.invariant.walked c.in_ok-collect_below.ensures.walked;
      sized = omega (arith, below-more c.args.group.now c.loop-occurrence.occurrence-index c.occurrence-item.result within c.occurrence-item.is, c.in_ok-collect_below.ensures.sized, c.loop-occurrence.invariant.sized);
    }
