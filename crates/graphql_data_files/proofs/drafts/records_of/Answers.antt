use Rattle.std.proofs.Common.{rules, arith, ◌≡◌, ◌++◌, [], ◌∷◌, Some, None, get_or, sym}
use Rattle.graphql_data_files.specs.Drafts.{record_of}
use Rattle.graphql_data_files.specs.LentDrafts.{draft_told}
use Rattle.graphql_data_files.proofs.DraftTurns.{record_turn, record_stops}
use Rattle.graphql_data_files.proofs.drafts.records_of.Goals as goal

pub drafts-preserved : goal.drafts-preserved
drafts-preserved c =
    let this = c.draft-item.result in
    let here : get_or c.args.drafts.now c.drafts.draft-index this ≡ this = search rules in
    let means : record_of (draft_told this) ≡ Some c.in-Some.made = search rules in
    let pushed : c.push.new.self ≡ c.drafts.records ++ c.in-Some.made ∷ [] = search rules in
    record_turn _ c.args.drafts.now c.drafts.draft-index this c.drafts.records (omega arith) here c.drafts.invariant c.in-Some.made c.push.new.self means pushed

pub returns-in-None : goal.returns-in-None
returns-in-None c =
    let this = c.draft-item.result in
    let here : get_or c.args.drafts.now c.drafts.draft-index this ≡ this = search rules in
    let lacks : record_of (draft_told this) ≡ None = search rules in
    sym (record_stops _ c.args.drafts.now c.drafts.draft-index this c.drafts.records (omega arith) here c.drafts.invariant lacks)
