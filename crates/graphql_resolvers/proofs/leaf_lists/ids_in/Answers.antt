use Rattle.std.proofs.Common.{◌≡◌, sym, subst, ◌∙◌}
use Rattle.graphql_resolvers.specs.Asked.{as_id}
use Rattle.graphql_resolvers.proofs.EachItem.{before, from_start, item_stops, item_turn, item_whole, read}
use Rattle.graphql_resolvers.proofs.leaf_lists.ids_in.Goals as goal

pub items-init : goal.items-init
items-init c =
    let whole = read as_id c.args.items.now in
    subst (λ found. whole ≡ before found whole) (sym c.new-ids.ensures.items) (from_start whole)

pub returns-in-None : goal.returns-in-None
returns-in-None c =
    item_stops as_id c.args.items.now c.items.item-index c.item-item.result c.items.ids.items c.items-test.true (sym c.item-item.is) c.items.invariant
    (sym c.in_ok-id.ensures ∙ c.in-None.is)

pub items-preserved : goal.items-preserved
items-preserved c =
    item_turn as_id c.args.items.now c.items.item-index c.item-item.result c.items.ids.items c.items-test.true (sym c.item-item.is) c.items.invariant
    c.in-Some.id c.push.new.self.items (sym c.in_ok-id.ensures ∙ c.in-Some.is) c.in_ok-push-in-Some.ensures.items

pub returns : goal.returns
returns c = item_whole as_id c.args.items.now c.items.item-index c.items.ids.items c.items-test.false c.items.invariant
