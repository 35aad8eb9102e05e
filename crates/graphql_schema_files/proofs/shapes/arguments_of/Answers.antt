use Rattle.std.proofs.Common.{rules, arith, ◌≡◌, ◌++◌, [], ◌∷◌, Some, None, get_or, sym}
use Rattle.serde_json.specs.View.{view}
use Rattle.graphql_schema_files.specs.Shapes.{argument_draft}
use Rattle.graphql_json.proofs.EachTurns.{each_turn, each_stops}
use Rattle.graphql_schema_files.proofs.shapes.arguments_of.Goals as goal

pub items-preserved : goal.items-preserved
items-preserved c =
    let this = c.item-item.result in
    let one = c.in-Some.argument in
    let here : get_or c.args.items.now c.items.item-index this ≡ this = search rules in
    let means : argument_draft (view this) ≡ Some one = search rules in
    let pushed : c.push.new.self ≡ c.items.arguments ++ one ∷ [] = search rules in
    each_turn argument_draft _ c.args.items.now c.items.item-index this one c.items.arguments c.push.new.self (omega arith) here means pushed c.items.invariant

pub returns-in-None : goal.returns-in-None
returns-in-None c =
    let this = c.item-item.result in
    let here : get_or c.args.items.now c.items.item-index this ≡ this = search rules in
    let lacks : argument_draft (view this) ≡ None = search rules in
    sym (each_stops argument_draft _ c.args.items.now c.items.item-index this c.items.arguments (omega arith) here lacks c.items.invariant)
