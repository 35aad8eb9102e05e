use Rattle.std.proofs.Common.{refl, sym, subst}
use Rattle.graphql_text.specs.Grammar.{IsDivided}
use Rattle.graphql_law_rows.specs.SampleTokens.{one_line, others, tokens, two_lines}
use Rattle.graphql_law_rows.proofs.SampleTokens.{one_line_is_read, two_lines_are_read}
use Rattle.graphql_service_tests.proofs.Spelled.{chars_of_one_line, chars_of_two_lines, one_line_is_utf8, two_lines_are_utf8}
use Rattle.graphql_service_tests.proofs.service.spellings.two_lines_are_answered_as_one.Goals as goal

pub returns : goal.returns
returns g c = λ name given.
    let read = c.reading_is_division.ensures in
    c.same_tokens_same_answer.ensures two_lines one_line name given two_lines_are_utf8 one_line_is_utf8
    (record {
      tokens = tokens;
      others = others;
      divided =
          subst (λ text. IsDivided text tokens) (sym chars_of_two_lines)
          ((read two_lines tokens).0 two_lines_are_read);
      divided_other =
          subst (λ text. IsDivided text others) (sym chars_of_one_line)
          ((read one_line others).0 one_line_is_read);
      same = refl;
    })
