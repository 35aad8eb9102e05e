use Rattle.graphql_stores_tests.proofs.JoinOfThree.{are-whole, no-back, no-first, no-front, no-third}
use Rattle.graphql_stores_tests.proofs.joined.joined_both_ways.Goals as goal

pub returns : goal.returns
returns g c = λ exact whole is.
    are-whole g.S.PartialEq.eq c.joins_are_one.ensures exact _ _ _ whole is c.in_ok-front.front c.in_ok-one.one c.in_ok-back.back
    c.in_ok-other.other c.in_ok-front.ensures.joins c.in_ok-one.ensures.joins c.in_ok-back.ensures.joins c.in_ok-other.ensures.joins

pub returns-in_err-front : goal.returns-in_err-front
returns-in_err-front g c = λ exact whole is.
    no-front g.S.PartialEq.eq c.joins_are_one.ensures exact _ _ _ whole is c.from_residual.result
    c.in_err-front.field-0.0 c.from_residual.ensures.1 c.in_err-front.ensures.joins

pub returns-in_err-one : goal.returns-in_err-one
returns-in_err-one g c = λ exact whole is.
    no-third g.S.PartialEq.eq c.joins_are_one.ensures exact _ _ _ whole is c.from_residual-in_err-one.result
    c.in_err-one.field-0.0 c.from_residual-in_err-one.ensures.1 c.in_ok-front.front c.in_ok-front.ensures.joins
    c.in_err-one.ensures.joins

pub returns-in_err-back : goal.returns-in_err-back
returns-in_err-back g c = λ exact whole is.
    no-back g.S.PartialEq.eq c.joins_are_one.ensures exact _ _ _ whole is c.from_residual-in_err-back.result
    c.in_err-back.field-0.0 c.from_residual-in_err-back.ensures.1 c.in_err-back.ensures.joins

pub returns-in_err-other : goal.returns-in_err-other
returns-in_err-other g c = λ exact whole is.
    no-first g.S.PartialEq.eq c.joins_are_one.ensures exact _ _ _ whole is c.from_residual-in_err-other.result
    c.in_err-other.field-0.0 c.from_residual-in_err-other.ensures.1 c.in_ok-back.back c.in_ok-back.ensures.joins
    c.in_err-other.ensures.joins
