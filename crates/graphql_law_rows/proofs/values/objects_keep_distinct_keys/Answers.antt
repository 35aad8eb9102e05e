use Rattle.std.proofs.Common.{codes, [], ◌∷◌, arith}
use Rattle.graphql_output_values.specs.declared.value.Value.TheVariants as output
use Rattle.graphql_law_rows.specs.SampleValues.{inner, inner_list, sample_object, pairs}
use Rattle.graphql_law_rows.proofs.SampleValues.{list_distinct, object_distinct_throughout, pairs_distinct}
use Rattle.graphql_law_rows.proofs.values.objects_keep_distinct_keys.Goals as goal

pub returns-clause-inner : goal.returns-clause-inner
returns-clause-inner c =
    (c.distinct_by_forms.ensures.2 (output.Object inner ∷ [])).0 list_distinct 0 output.Null (omega arith)

pub returns-clause-under : goal.returns-clause-under
returns-clause-under c = c.distinct_under_keys.ensures sample_object (codes "a") object_distinct_throughout

pub returns-clause-written : goal.returns-clause-written
returns-clause-written c =
    c.distinct_once_written.ensures sample_object (codes "b") inner_list object_distinct_throughout list_distinct

pub returns-clause-made : goal.returns-clause-made
returns-clause-made c = c.made_distinct_throughout.ensures pairs pairs_distinct
