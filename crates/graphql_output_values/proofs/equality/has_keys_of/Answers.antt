use Rattle.std.proofs.Common.{◌∙◌, is_some}
use Rattle.std.specs.List.{list_all}
use Rattle.graphql_output_values.proofs.equality.has_keys_of.Goals as goal

pub returns : goal.returns
returns g c = c.finds_all.ensures ∙ (λ i. list_all (λ field. is_some (c.new-values.ensures field.0 i)) c.args.other.now.fields)
