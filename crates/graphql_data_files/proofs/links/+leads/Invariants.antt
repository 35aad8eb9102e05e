use Rattle.std.proofs.Common.{◌≡◌, take, true}
use Rattle.std.specs.List.{list_all}
use Rattle.graphql_data_files.specs.Links.{value_leads}
use Rattle.graphql_data_files.proofs.links.+leads.Given as goal

abbrev pub invariant-values_lead-values : goal.invariant-values_lead-values
invariant-values_lead-values l = list_all (value_leads l.records.entries) (take l.value-index l.values) ≡ true
