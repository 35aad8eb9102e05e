use Rattle.std.proofs.Common.{◌≡◌, subst, sym, rules}
use Rattle.graphql_output_values.specs.DistinctKeys.{HasDistinctKeysThroughout}
use Rattle.graphql_joined_data.proofs.joining.copied_field.Goals as goal

pub returns-clause-distinct : goal.returns-clause-distinct
returns-clause-distinct g c =
    let copy : c.in_ok-clone-2.field-0 ≡ c.args.first.now = search rules in
    subst HasDistinctKeysThroughout (sym copy) c.requires
