use Rattle.graphql_stores_tests.proofs.DifferUnder.{made-distinct}
use Rattle.graphql_stores_tests.proofs.joined.object_of.Goals as goal

pub returns-clause-distinct : goal.returns-clause-distinct
returns-clause-distinct c =
    made-distinct c.distinct_by_forms.ensures c.in_ok-object.object c.add_field.new.self c.in_ok-clone.field-0
    c.in_ok-object.ensures c.in_ok-add_field.ensures.throughout
