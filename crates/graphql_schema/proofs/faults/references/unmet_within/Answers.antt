use Rattle.std.proofs.Common.{◌∙◌, sym, subst}
use Rattle.std.proofs.lemmas.List.{map-id}
use Rattle.graphql_names.specs.Names.{Finds}
use Rattle.graphql_schema.specs.Demands.{references_asked, misses}
use Rattle.graphql_schema.proofs.faults.references.unmet_within.Goals as goal

pub returns-in-Object : goal.returns-in-Object
returns-in-Object g c =
    let found = c.unmet_among-in-Object.result in
    let types = c.args.types.now in
    subst (λ wanted. Finds (misses c.args.wanted types (references_asked wanted c.args.meta.now)) found) (sym c.in-Object.is)
    (subst (λ names. Finds (misses c.args.wanted types names) found) (map-id c.member_names.result.now ∙ c.member_names.ensures) c.unmet_among-in-Object.ensures)

pub returns-in-Interface : goal.returns-in-Interface
returns-in-Interface g c =
    let found = c.unmet_among-in-Interface.result in
    let types = c.args.types.now in
    subst (λ wanted. Finds (misses c.args.wanted types (references_asked wanted c.args.meta.now)) found) (sym c.in-Interface.is)
    (subst (λ names. Finds (misses c.args.wanted types names) found) (map-id c.interface_names.result.now ∙ c.interface_names.ensures) c.unmet_among-in-Interface.ensures)
