use Rattle.std.proofs.Common.{rules, arith, ◌≡◌, ◌++◌, [], ◌∷◌, Some, None, get_or, map, sym}
use Rattle.serde_json.specs.View.{view}
use Rattle.graphql_json.proofs.EachTurns.{each_stops}
use Rattle.graphql_data_files.specs.Drafts.{draft_of}
use Rattle.graphql_data_files.specs.LentDrafts.{draft_told}
use Rattle.graphql_data_files.proofs.DraftTurns.{draft_turn}
use Rattle.graphql_data_files.proofs.drafts.drafts_of.Goals as goal

pub items-preserved : goal.items-preserved
items-preserved c =
    let this = c.item-item.result in
    let here : get_or c.args.items.now c.items.item-index this ≡ this = search rules in
    let means : draft_of (view this) ≡ Some (draft_told c.in-Some.draft) = search rules in
    let pushed : c.push.new.self ≡ c.items.drafts ++ c.in-Some.draft ∷ [] = search rules in
    draft_turn _ c.args.items.now c.items.item-index this c.in-Some.draft c.items.drafts c.push.new.self (omega arith) here means pushed c.items.invariant

pub returns-in-None : goal.returns-in-None
returns-in-None c =
    let this = c.item-item.result in
    let here : get_or c.args.items.now c.items.item-index this ≡ this = search rules in
    let lacks : draft_of (view this) ≡ None = search rules in
    sym (each_stops draft_of _ c.args.items.now c.items.item-index this (map draft_told c.items.drafts) (omega arith) here lacks c.items.invariant)
