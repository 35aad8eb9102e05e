use Rattle.std.proofs.Common.{◌≡◌, ◌++◌, ◌∷◌, [], rules, sym, subst, ◌∙◌}
use Rattle.graphql_resolvers.specs.Asked.{as_int}
use Rattle.graphql_resolvers.proofs.EachItem.{before, from_start, item_stops, item_turn, item_whole, read}
use Rattle.graphql_resolvers.proofs.leaf_lists.integers_in.Goals as goal

pub items-init : goal.items-init
items-init c =
    let whole = read as_int c.args.items.now in
    subst (λ found. whole ≡ before found whole) (sym c.new-integers.ensures.items) (from_start whole)

pub returns-in-None : goal.returns-in-None
returns-in-None c =
    item_stops as_int c.args.items.now c.items.item-index c.item-item.result c.items.integers.items c.items-test.true (sym c.item-item.is) c.items.invariant
    (sym c.int_in.ensures ∙ c.in-None.is)

pub items-preserved : goal.items-preserved
items-preserved c =
    let pushed : c.push.new.self.items ≡ c.items.integers.items ++ c.in-Some.integer ∷ [] = search rules in
    item_turn as_int c.args.items.now c.items.item-index c.item-item.result c.items.integers.items c.items-test.true (sym c.item-item.is) c.items.invariant
    c.in-Some.integer c.push.new.self.items (sym c.int_in.ensures ∙ c.in-Some.is) pushed

pub returns : goal.returns
returns c = item_whole as_int c.args.items.now c.items.item-index c.items.integers.items c.items-test.false c.items.invariant
