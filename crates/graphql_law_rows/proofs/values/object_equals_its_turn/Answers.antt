use Rattle.std.specs.Prelude.{[], ◌∷◌}
use Rattle.std.proofs.lemmas.List.Sorted.{IsPermutation-append_comm}
use Rattle.graphql_law_rows.specs.SampleValues.{sample_object, turned, field_b, field_a}
use Rattle.graphql_law_rows.proofs.SampleValues.{object_distinct, turned_distinct}
use Rattle.graphql_law_rows.proofs.values.object_equals_its_turn.Goals as goal

pub returns-clause-equals : goal.returns-clause-equals
returns-clause-equals c =
    c.equal_in_any_order.ensures sample_object turned object_distinct (IsPermutation-append_comm (field_b ∷ []) (field_a ∷ []))

pub returns-clause-stand_in : goal.returns-clause-stand_in
returns-clause-stand_in c =
    let equals = c.equal_in_any_order.ensures sample_object turned object_distinct (IsPermutation-append_comm (field_b ∷ []) (field_a ∷ [])) in
    ((c.equal_by_fields.ensures sample_object turned object_distinct turned_distinct).0 equals).1
