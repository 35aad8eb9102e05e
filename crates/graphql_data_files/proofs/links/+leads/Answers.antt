use Rattle.std.proofs.Common.{ap, sym, ◌∙◌}
use Rattle.std.specs.List.{list_all}
use Rattle.graphql_data_files.specs.Links.{value_leads}
use Rattle.graphql_data_files.proofs.LinkLemmas.{value_leads_list}
use Rattle.graphql_data_files.proofs.links.+leads.Goals as goal

pub value_leads-returns-in-List : goal.value_leads-returns-in-List
value_leads-returns-in-List t c =
    let leads = value_leads c.args.records.now.entries in
    c.values_lead.ensures ∙ ap (list_all leads) c.as_slice.ensures ∙ sym (value_leads_list c.args.records.now.entries c.args.value.now c.in-List.values c.in-List.is)
