use Rattle.graphql_law_rows.specs.SampleTokens.{two_lines, tokens}
use Rattle.graphql_law_rows.proofs.SampleTokens.{two_lines_are_read}
use Rattle.graphql_law_rows.proofs.tokens.two_lines_are_divided.Goals as goal

pub returns-clause-divided : goal.returns-clause-divided
returns-clause-divided c = (c.reading_is_division.ensures two_lines tokens).0 two_lines_are_read

pub returns-clause-only : goal.returns-clause-only
returns-clause-only c = λ others divided.
    c.one_list.ensures two_lines others tokens divided
    ((c.reading_is_division.ensures two_lines tokens).0 two_lines_are_read)

pub returns-clause-no_fault : goal.returns-clause-no_fault
returns-clause-no_fault c = λ fault broken.
    c.not_both.ensures two_lines tokens fault
    ((c.reading_is_division.ensures two_lines tokens).0 two_lines_are_read) broken
