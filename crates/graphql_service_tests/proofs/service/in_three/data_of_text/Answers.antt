use Rattle.graphql_service_tests.proofs.service.in_three.data_of_text.Goals as goal

pub returns-in-Ok : goal.returns-in-Ok
returns-in-Ok g c = c.answered_data_have_distinct_keys.ensures _ _ _ _ _ _ c.in-Ok.ensures.answered
