use Rattle.graphql_stores_tests.proofs.joined.join_of_three.Goals as goal

pub returns : goal.returns
returns c = c.joined_both_ways.ensures c.default_scalars_are_one_where_equal.ensures
