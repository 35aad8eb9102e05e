use Rattle.std.proofs.Common.{refl}
use Rattle.graphql_law_rows.specs.SampleTexts.{tree}
use Rattle.graphql_law_rows.specs.SampleTokens.{one_line, others, tokens, two_lines}
use Rattle.graphql_law_rows.proofs.SampleTokens.{one_line_is_read, two_lines_are_read}
use Rattle.graphql_law_rows.proofs.documents.one_line_is_the_same_document.Goals as goal

pub returns : goal.returns
returns g c =
    c.differ_in_places.ensures.documents two_lines one_line
    (record {
      tokens = tokens;
      others = others;
      divided = (c.reading_is_division.ensures two_lines tokens).0 two_lines_are_read;
      divided_other = (c.reading_is_division.ensures one_line others).0 one_line_is_read;
      same = refl;
    })
    tree c.two_lines_are_a_document.ensures.document
