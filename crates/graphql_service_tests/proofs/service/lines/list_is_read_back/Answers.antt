use Rattle.std.proofs.Common.{◌≡◌, ◌≤◌, ◌∷◌, [], Some, true, refl, ap, ◌∙◌, arith, codes}
use Rattle.std.specs.List.{IsDistinct}
use Rattle.std.specs.Str.{bytes_eq}
use Rattle.std.proofs.lemmas.Map.Keys.{IsDistinct-from_apart}
use Rattle.serde_json.specs.Read.{max_depth}
use Rattle.graphql_scalars.specs.DefaultScalar.{scalar_answer}
use Rattle.graphql_output_values.specs.ValueEquations.{value_folds}
use Rattle.graphql_output_values.specs.declared.value.Value.TheVariants as value
use Rattle.graphql_json.specs.Laws.{nesting, fits_32_bits, data_of_value}
use Rattle.graphql_service_tests.specs.Samples.{list, list_data, sample, sample_data}
use Rattle.graphql_service_tests.proofs.service.lines.list_is_read_back.Goals as goal

pub returns-clause-read : goal.returns-clause-read
returns-clause-read c =
    let deep : nesting (value.Object sample) ≡ 2 = simp value_folds refl in
    let nests : nesting (value.Object sample) ≤ max_depth = omega (arith, deep) in
    let fits : fits_32_bits scalar_answer (value.Object sample) ≡ true = simp value_folds refl in
    let is_data : data_of_value scalar_answer (value.Object sample) ≡ sample_data = simp value_folds refl in
    c.json_reads_back.ensures (value.Object sample) nests fits ∙ ap Some is_data

pub returns-clause-under : goal.returns-clause-under
returns-clause-under c =
    let is_data : data_of_value scalar_answer list ≡ list_data = simp value_folds refl in
    let alone : IsDistinct bytes_eq (codes "c" ∷ []) = IsDistinct-from_apart bytes_eq (codes "c" ∷ []) (λ i j d before within. absurd (omega (arith, before, within))) in
    c.keys_keep_values.ensures sample (codes "c") alone ∙ ap Some is_data
