use Rattle.std.proofs.Common.{ap, sym, ◌||◌}
use Rattle.graphql_names.proofs.NameLemmas.{finds_as}
use Rattle.graphql_schema.specs.declared.faults.demand.Demand.TheVariants as demand
use Rattle.graphql_schema.specs.Demands.{is_referred}
use Rattle.graphql_schema.proofs.faults.references.bad_member.Goals as goal

pub returns : goal.returns
returns g c =
    let types = c.args.types.now in
    finds_as (is_referred demand.Interface types) (λ name. is_referred demand.Object types name || is_referred demand.Interface types name) c.unmet_reference-2.result
    (λ name. sym (ap (λ b. b || is_referred demand.Interface types name) (c.in_default.ensures name))) c.unmet_reference-2.ensures
