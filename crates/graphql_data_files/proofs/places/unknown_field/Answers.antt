use Rattle.std.proofs.Common.{◌≡◌, ◌∙◌, Some, None, not, option_map, ap, rules}
use Rattle.std.specs.List.{find}
use Rattle.std.specs.Option.{option_copied}
use Rattle.graphql_data_files.specs.DataFiles.{has_field, has_fields}
use Rattle.graphql_data_files.proofs.Placing.{placed, placed_nowhere}
use Rattle.graphql_data_files.proofs.places.unknown_field.Goals as goal

pub returns-in-Some : goal.returns-in-Some
returns-in-Some c =
    let types = c.args.types.now in
    let r = c.in-Some.record.now in
    let found : find (λ r. not (has_fields types r)) c.args.records.now ≡ Some r = search rules in
    placed (λ r. r.0) (λ r. option_map (λ f. f.0) (find (λ f. not (has_field types r.1.type_name f)) r.1.fields)) (λ r. not (has_fields types r)) c.args.records.now c.at_field.result r
    c.as_str.result.now (option_copied c.name_of.result) found c.as_str.ensures (c.name_of.ensures ∙ ap (option_map (λ f. f.0)) c.lacked.ensures) c.at_field.ensures

pub returns-in-None : goal.returns-in-None
returns-in-None c =
    let types = c.args.types.now in
    let found : find (λ r. not (has_fields types r)) c.args.records.now ≡ None = search rules in
    placed_nowhere (λ r. r.0) (λ r. option_map (λ f. f.0) (find (λ f. not (has_field types r.1.type_name f)) r.1.fields)) (λ r. not (has_fields types r)) c.args.records.now found
