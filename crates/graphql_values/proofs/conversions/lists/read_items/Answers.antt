use Rattle.std.proofs.Common.{◌≡◌, take, subst, ◌++◌, ◌∷◌, [], arith, map}
use Rattle.std.specs.List.{AllZip}
use Rattle.std.proofs.lemmas.List.{take_all}
use Rattle.graphql_values.proofs.ConversionLemmas.{MeansItems-list, RefusesItem-list, read_more}
use Rattle.graphql_values.proofs.conversions.lists.read_items.Goals as goal

pub returns-in-Err : goal.returns-in-Err
returns-in-Err g c =
    λ other. RefusesItem-list _ _ c.args.items.now c.items.item-index c.item-item.result _ _ c.items-test.true c.item-item.is c.items.invariant (c.in-Err.ensures other)

pub items-preserved : goal.items-preserved
items-preserved g c =
    let pushed : c.push.new.self.items ≡ c.items.meant.items ++ c.in-Ok.one ∷ [] = c.in_ok-push-in-Ok.ensures.items in
    rw pushed (read_more g.T.FromInputValue.means c.args.items.now c.items.item-index c.item-item.result c.items.meant.items c.in-Ok.one c.items-test.true c.item-item.is c.items.invariant c.in-Ok.ensures)

pub returns : goal.returns
returns g c =
    let whole : take c.items.item-index c.args.items.now ≡ c.args.items.now = take_all c.items.item-index c.args.items.now (omega arith) in
    MeansItems-list _ _ _ (subst (λ items. AllZip g.T.FromInputValue.means (map (λ x. x.item) items) c.items.meant.items) whole c.items.invariant)
