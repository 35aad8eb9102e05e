use Rattle.std.proofs.Common.{◌≡◌, ap, sym, ◌∙◌, arith, map}
use Rattle.std.proofs.lemmas.Grind.{common_steps}
use Rattle.graphql_field_results.specs.declared.resolved.Resolved.TheVariants as resolved
use Rattle.graphql_execution_walk.specs.Asked.{map_nodes}
use Rattle.graphql_execution_walk.specs.declared.asked.Asked.TheVariants as asked
use Rattle.graphql_execution_walk.proofs.AskedLemmas.{map_more, map_nodes-list}
use Rattle.graphql_execution_walk.proofs.asked.+of_schema.Goals as goal

pub of_schema-returns-in_ok-items_of_schema-in-List : goal.of_schema-returns-in_ok-items_of_schema-in-List
of_schema-returns-in_ok-items_of_schema-in-List g t c =
    ap resolved.List c.in_ok-items_of_schema-in-List.ensures ∙ sym (map_nodes-list asked.Part c.in-List.items) ∙ ap (map_nodes asked.Part) (sym c.in-List.is)

pub items_of_schema-loop-item-preserved : goal.items_of_schema-loop-item-preserved
items_of_schema-loop-item-preserved g t c = record {
  taken = grind (arith, common_steps);
  counted = grind (arith, common_steps);
  made = map_more (map_nodes asked.Part) c.loop-item.yielded c.in-Some.item c.loop-item.all c.push.new.self _ c.loop-item.invariant.made c.in_ok-push.ensures.ok c.in_ok-of_schema.ensures;
}

pub items_of_schema-returns : goal.items_of_schema-returns
items_of_schema-returns g t c =
    let all : c.loop-item.yielded ≡ c.args.items = grind (arith, common_steps) in
    c.loop-item.invariant.made ∙ ap (map (map_nodes asked.Part)) all
