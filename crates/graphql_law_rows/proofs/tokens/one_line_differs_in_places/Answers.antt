use Rattle.std.proofs.Common.{refl}
use Rattle.graphql_law_rows.specs.SampleTokens.{two_lines, tokens, one_line, others}
use Rattle.graphql_law_rows.proofs.SampleTokens.{one_line_is_read}
use Rattle.graphql_law_rows.proofs.tokens.one_line_differs_in_places.Goals as goal

pub returns : goal.returns
returns c =
    c.differ_in_places.ensures two_lines one_line tokens others c.two_lines_are_divided.ensures.divided
    ((c.reading_is_division.ensures one_line others).0 one_line_is_read) refl
