use Rattle.std.proofs.Common.{◌≡◌, drop}
use Rattle.std.specs.List.{list_all}
use Rattle.graphql_data_files.specs.Links.{all_lead, record_leads}
use Rattle.graphql_data_files.proofs.links.all_lead.Given as goal

-- all lead where those do that are left
abbrev pub invariant-records : goal.invariant-records
invariant-records l = all_lead l.records.entries l.types ≡ list_all (λ r. record_leads l.records.entries l.types r.1) (drop l.place l.records.entries)
