use Rattle.graphql_values.specs.declared.input_value.InputValue.TheVariants as input
use Rattle.graphql_law_rows.specs.SampleValues.{sample_fields, turned_fields}
use Rattle.graphql_law_rows.proofs.SampleValues.{each_has_its_like, fields_unique, turned_unique}
use Rattle.graphql_law_rows.proofs.values.input_object_is_its_turn.Goals as goal

pub returns-clause-same : goal.returns-clause-same
returns-clause-same c =
    (c.same_objects_have_the_same_fields.ensures sample_fields turned_fields fields_unique turned_unique).1 each_has_its_like

pub returns-clause-either_way : goal.returns-clause-either_way
returns-clause-either_way c =
    c.same_value_is_an_equivalence.ensures.either_way (input.Object sample_fields) (input.Object turned_fields)
    ((c.same_objects_have_the_same_fields.ensures sample_fields turned_fields fields_unique turned_unique).1 each_has_its_like)

pub returns-clause-by_a_third : goal.returns-clause-by_a_third
returns-clause-by_a_third c =
    let same = (c.same_objects_have_the_same_fields.ensures sample_fields turned_fields fields_unique turned_unique).1 each_has_its_like in
    let law = c.same_value_is_an_equivalence.ensures in
    law.by_a_third (input.Object sample_fields) (input.Object turned_fields) (input.Object sample_fields) same
    (law.either_way (input.Object sample_fields) (input.Object turned_fields) same)
