use Rattle.std.proofs.Common.{◌≡◌, arith, unwrap_or, ap, ◌∙◌}
use Rattle.std.specs.Map.{lookup}
use Rattle.std.specs.Str.{bytes_eq}
use Rattle.std.proofs.lemmas.Grind.{common_steps}
use Rattle.indexmap.specs.IndexMap.{insert_entry}
use Rattle.graphql_arguments.specs.GivenValues.{values_told}
use Rattle.graphql_arguments.proofs.FirstValues.{put_in}
use Rattle.graphql_arguments.proofs.filling.put_value.Goals as goal

pub returns : goal.returns
returns g c =
    let held = c.args.values.now.entries in
    let name = c.args.name in
    let value = c.args.value in
    let given = c.or_insert.result.now in
    let is : given ≡ unwrap_or (lookup (bytes_eq name) held) value = c.or_insert.ensures.value ∙ ap (λ o. unwrap_or o value) c.in_ok-values.ensures.value in
    let put = ap values_told (c.in_ok-values.ensures.update.1 given) ∙ ap (λ v. values_told (insert_entry bytes_eq held name v)) is ∙ put_in held name value in
    grind (arith, common_steps, put)
