use Rattle.std.proofs.Common.{rules, arith, ◌≡◌, ◌++◌, [], ◌∷◌, Some, get_or}
use Rattle.serde_json.specs.View.{view}
use Rattle.graphql_data_files.specs.FileValues.{file_value}
use Rattle.graphql_data_files.proofs.ValueTurns.{item_turn}
use Rattle.graphql_data_files.proofs.values.+values.Goals as goal

pub list_of-items-preserved : goal.list_of-items-preserved
list_of-items-preserved t c =
    let this = c.item-item.result in
    let value = c.in-Some.value in
    let here : get_or c.args.items.now c.items.item-index this ≡ this = search rules in
    let means : file_value (view this) ≡ Some value = search rules in
    let pushed : c.push.new.self ≡ c.items.found ++ value ∷ [] = search rules in
    item_turn _ c.args.items.now c.items.item-index this value c.items.found c.push.new.self (omega arith) here means pushed c.items.invariant
