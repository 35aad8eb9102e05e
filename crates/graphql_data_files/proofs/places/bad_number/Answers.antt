use Rattle.std.proofs.Common.{◌≡◌, ◌∙◌, Some, None, is_some, map, option_map, ap, rules}
use Rattle.std.specs.List.{find}
use Rattle.std.specs.Option.{option_copied}
use Rattle.graphql_data_files.specs.LentDrafts.{draft_told}
use Rattle.graphql_data_files.specs.RecordPlaces.{misnumbered}
use Rattle.graphql_data_files.proofs.Placing.{find_map, placed, placed_nowhere}
use Rattle.graphql_data_files.proofs.places.bad_number.Goals as goal

pub returns-in-Some : goal.returns-in-Some
returns-in-Some c =
    let draft = c.in-Some.draft.now in
    let first : find (λ d. is_some (misnumbered (draft_told d).fields)) c.args.drafts.now ≡ Some draft = search rules in
    let found = find_map draft_told (λ d. is_some (misnumbered d.fields)) c.args.drafts.now ∙ ap (option_map draft_told) first in
    placed (λ d. d.id) (λ d. misnumbered d.fields) (λ d. is_some (misnumbered d.fields)) (map draft_told c.args.drafts.now) c.at_field.result (draft_told draft)
    c.as_str.result.now (option_copied c.misnumbered.result) found c.as_str.ensures c.misnumbered.ensures c.at_field.ensures

pub returns-in-None : goal.returns-in-None
returns-in-None c =
    let first : find (λ d. is_some (misnumbered (draft_told d).fields)) c.args.drafts.now ≡ None = search rules in
    placed_nowhere (λ d. d.id) (λ d. misnumbered d.fields) (λ d. is_some (misnumbered d.fields)) (map draft_told c.args.drafts.now)
    (find_map draft_told (λ d. is_some (misnumbered d.fields)) c.args.drafts.now ∙ ap (option_map draft_told) first)
