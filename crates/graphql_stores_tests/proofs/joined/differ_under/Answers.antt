use Rattle.graphql_stores_tests.proofs.DifferUnder.{no-join, tells-key}
use Rattle.graphql_stores_tests.proofs.joined.differ_under.Goals as goal

pub returns-in_err-first-clause-none : goal.returns-in_err-first-clause-none
returns-in_err-first-clause-none c = λ unlike. no-join _ c.differing_have_no_join.ensures _ _ _ unlike

pub returns-in_err-second-clause-none : goal.returns-in_err-second-clause-none
returns-in_err-second-clause-none c = λ unlike. no-join _ c.differing_have_no_join.ensures _ _ _ unlike

pub returns-clause-none : goal.returns-clause-none
returns-clause-none c = λ unlike. no-join _ c.differing_have_no_join.ensures _ _ _ unlike

pub returns-clause-told : goal.returns-clause-told
returns-clause-told c = λ unlike.
    tells-key _ c.differing_have_no_join.ensures _ _ _ unlike c.default_scalars_are_one_where_equal.ensures c.in_ok-first.first
    c.in_ok-second.second c.in_ok-first.ensures.is c.in_ok-second.ensures.is c.join_data.result c.join_data.ensures.joins
