use Rattle.std.proofs.Common.{refl}
use Rattle.graphql_law_rows.specs.SampleTokens.{broken, fault, answers, done}
use Rattle.graphql_law_rows.proofs.SampleTokens.{question_mark_refuses, given_in_turn, had_memory}
use Rattle.graphql_law_rows.proofs.tokens.question_mark_is_the_fault.Goals as goal

pub returns-clause-is_broken : goal.returns-clause-is_broken
returns-clause-is_broken c = (c.reading_is_break.ensures broken fault).0 question_mark_refuses

pub returns-clause-only : goal.returns-clause-only
returns-clause-only c = λ other is_broken.
    c.one_fault.ensures broken other fault is_broken ((c.reading_is_break.ensures broken fault).0 question_mark_refuses)

pub returns-clause-no_tokens : goal.returns-clause-no_tokens
returns-clause-no_tokens c = λ tokens divided.
    c.not_both.ensures broken tokens fault divided ((c.reading_is_break.ensures broken fault).0 question_mark_refuses)

pub returns-clause-position : goal.returns-clause-position
returns-clause-position c =
    (c.fault_is_position.ensures broken fault ((c.reading_is_break.ensures broken fault).0 question_mark_refuses)).0

pub returns-clause-in_turn : goal.returns-clause-in_turn
returns-clause-in_turn c = c.same_one_by_one.ensures broken answers done given_in_turn refl had_memory

pub returns-clause-nothing_more : goal.returns-clause-nothing_more
returns-clause-nothing_more c = λ answer gives. c.nothing_more.ensures done done answer refl gives
