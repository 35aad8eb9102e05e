use Rattle.std.proofs.Common.{◌≡◌, ◌∙◌, Some, None, map, sym, rules}
use Rattle.graphql_data_files.specs.Drafts.{records_of}
use Rattle.graphql_data_files.specs.LentDrafts.{draft_told}
use Rattle.graphql_data_files.proofs.Placing.{some_other, some_same}
use Rattle.graphql_data_files.proofs.places.bad_link_in.Goals as goal

pub returns-in-Some : goal.returns-in-Some
returns-in-Some c = λ told.
    let copied : records_of (map draft_told c.args.drafts.now) ≡ Some c.in-Some.copies = search rules in
    c.bad_link.ensures (some_same c.in-Some.copies c.args.records.now (sym copied ∙ told))

pub returns-in-None : goal.returns-in-None
returns-in-None c = λ told.
    let copied : records_of (map draft_told c.args.drafts.now) ≡ None = search rules in
    absurd (some_other c.args.records.now (sym copied ∙ told))
