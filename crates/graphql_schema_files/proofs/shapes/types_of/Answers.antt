use Rattle.std.proofs.Common.{rules, arith, ◌≡◌, ◌++◌, [], ◌∷◌, Some, None, get_or, sym}
use Rattle.serde_json.specs.View.{view}
use Rattle.graphql_schema_files.specs.Shapes.{type_draft}
use Rattle.graphql_json.proofs.EachTurns.{each_turn, each_stops}
use Rattle.graphql_schema_files.proofs.shapes.types_of.Goals as goal

pub items-preserved : goal.items-preserved
items-preserved c =
    let this = c.item-item.result in
    let one = c.in-Some.draft in
    let here : get_or c.args.items.now c.items.item-index this ≡ this = search rules in
    let means : type_draft (view this) ≡ Some one = search rules in
    let pushed : c.push.new.self ≡ c.items.types ++ one ∷ [] = search rules in
    each_turn type_draft _ c.args.items.now c.items.item-index this one c.items.types c.push.new.self (omega arith) here means pushed c.items.invariant

pub returns-in-None : goal.returns-in-None
returns-in-None c =
    let this = c.item-item.result in
    let here : get_or c.args.items.now c.items.item-index this ≡ this = search rules in
    let lacks : type_draft (view this) ≡ None = search rules in
    sym (each_stops type_draft _ c.args.items.now c.items.item-index this c.items.types (omega arith) here lacks c.items.invariant)
