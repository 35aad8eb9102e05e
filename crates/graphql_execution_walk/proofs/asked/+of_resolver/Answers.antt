use Rattle.std.proofs.Common.{◌≡◌, ap, sym, ◌∙◌, arith, length, map}
use Rattle.std.proofs.lemmas.Grind.{common_steps}
use Rattle.std.specs.Vec.Iter.{into_iter_items}
use Rattle.graphql_field_results.specs.declared.resolved.Resolved.TheVariants as resolved
use Rattle.graphql_execution_walk.specs.Asked.{map_nodes}
use Rattle.graphql_execution_walk.specs.declared.asked.Asked.TheVariants as asked
use Rattle.graphql_execution_walk.proofs.AskedLemmas.{drained, map_more, map_nodes-list}
use Rattle.graphql_execution_walk.proofs.asked.+of_resolver.Goals as goal

pub of_resolver-returns-in_ok-items_of_resolver-in-List : goal.of_resolver-returns-in_ok-items_of_resolver-in-List
of_resolver-returns-in_ok-items_of_resolver-in-List g t c =
    ap resolved.List c.in_ok-items_of_resolver-in-List.ensures ∙ sym (map_nodes-list asked.Own c.in-List.items) ∙ ap (map_nodes asked.Own) (sym c.in-List.is)

pub items_of_resolver-loop-item-preserved : goal.items_of_resolver-loop-item-preserved
items_of_resolver-loop-item-preserved g t c = record {
  taken = grind (arith, common_steps);
  counted = grind (arith, common_steps);
  made = map_more (map_nodes asked.Own) c.loop-item.yielded c.in-Some.item c.loop-item.all c.push.new.self _ c.loop-item.invariant.made c.in_ok-push.ensures.ok c.in_ok-of_resolver.ensures;
}

pub items_of_resolver-returns : goal.items_of_resolver-returns
items_of_resolver-returns g t c =
    let none : length (into_iter_items c.loop-item.item-iterator) ≡ 0 = grind (arith, common_steps) in
    let all : c.loop-item.yielded ≡ c.args.items = drained c.loop-item.yielded (into_iter_items c.loop-item.item-iterator) c.args.items c.loop-item.invariant.taken none in
    c.loop-item.invariant.made ∙ ap (map (map_nodes asked.Own)) all
