use Rattle.std.proofs.Common.{◌≡◌, ◌∙◌, Some, None, not, option_map, ap, rules, subst}
use Rattle.std.specs.List.{find}
use Rattle.std.specs.Option.{option_copied}
use Rattle.graphql_text.specs.Memory.{Gives}
use Rattle.graphql_records.specs.Tables.{Entries}
use Rattle.graphql_data_files.specs.Links.{field_leads, record_leads}
use Rattle.graphql_data_files.proofs.Placing.{placed, placed_by, placed_nowhere}
use Rattle.graphql_data_files.proofs.places.dead_link.Goals as goal

pub returns-in-Some : goal.returns-in-Some
returns-in-Some c = λ same.
    let types = c.args.types.now in
    let table = c.args.table.now.entries in
    let r = c.in-Some.record.now in
    let found : find (λ r. not (record_leads table types r.1)) c.args.records.now ≡ Some r = search rules in
    subst (λ (es : Entries). Gives c.at_field.result (placed_by (λ r. r.0) (λ r. option_map (λ f. f.0) (find (λ f. not (field_leads es types r.1.type_name f)) r.1.fields)) (λ r. not (record_leads es types r.1)) c.args.records.now)) same
    (placed (λ r. r.0) (λ r. option_map (λ f. f.0) (find (λ f. not (field_leads table types r.1.type_name f)) r.1.fields)) (λ r. not (record_leads table types r.1)) c.args.records.now c.at_field.result r
    c.as_str.result.now (option_copied c.name_of-field.result) found c.as_str.ensures (c.name_of-field.ensures ∙ ap (option_map (λ f. f.0)) c.leading_astray.ensures) c.at_field.ensures)

pub returns-in-None : goal.returns-in-None
returns-in-None c = λ same.
    let types = c.args.types.now in
    let table = c.args.table.now.entries in
    let found : find (λ r. not (record_leads table types r.1)) c.args.records.now ≡ None = search rules in
    subst (λ (es : Entries). None ≡ placed_by (λ r. r.0) (λ r. option_map (λ f. f.0) (find (λ f. not (field_leads es types r.1.type_name f)) r.1.fields)) (λ r. not (record_leads es types r.1)) c.args.records.now) same
    (placed_nowhere (λ r. r.0) (λ r. option_map (λ f. f.0) (find (λ f. not (field_leads table types r.1.type_name f)) r.1.fields)) (λ r. not (record_leads table types r.1)) c.args.records.now found)
