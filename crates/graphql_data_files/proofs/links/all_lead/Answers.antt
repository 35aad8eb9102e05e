use Rattle.std.proofs.Common.{◌≡◌, ◌<◌, Bool, true, false, length, sym, rules}
use Rattle.graphql_names.specs.Names.{Bytes}
use Rattle.graphql_records.specs.declared.record.Record.{Record}
use Rattle.graphql_data_files.specs.Links.{all_lead, leads_at, record_leads}
use Rattle.graphql_data_files.proofs.LinkLemmas.{all_turn}
use Rattle.graphql_data_files.proofs.links.all_lead.Goals as goal

pub returns-then-not-leads_at : goal.returns-then-not-leads_at
returns-then-not-leads_at c =
    let records = c.args.records.now.entries in
    let types = c.args.types.now in
    let within : c.records.place < length records = search rules in
    let fails : leads_at records types c.records.place ≡ false = search rules in
    let test : Bytes × Record → Bool = λ r. record_leads records types r.1 in
    sym (all_turn test (all_lead records types) records c.records.place false within fails c.records.invariant)

pub records-preserved : goal.records-preserved
records-preserved c =
    let records = c.args.records.now.entries in
    let types = c.args.types.now in
    let within : c.records.place < length records = search rules in
    let passes : leads_at records types c.records.place ≡ true = search rules in
    let test : Bytes × Record → Bool = λ r. record_leads records types r.1 in
    all_turn test (all_lead records types) records c.records.place true within passes c.records.invariant
