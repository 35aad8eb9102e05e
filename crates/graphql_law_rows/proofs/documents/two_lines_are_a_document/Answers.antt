use Rattle.graphql_law_rows.specs.SampleTexts.{tree}
use Rattle.graphql_law_rows.specs.SampleTokens.{before_end, ended, tokens, two_lines}
use Rattle.graphql_law_rows.proofs.SampleTexts.{tokens_spell}
use Rattle.graphql_law_rows.proofs.SampleTokens.{two_lines_are_read}
use Rattle.graphql_law_rows.proofs.documents.two_lines_are_a_document.Goals as goal

is_document : goal.returns-clause-document
is_document g c = record {
  tokens = before_end;
  finish = ended.span;
  cut = (c.reading_is_division.ensures two_lines tokens).0 two_lines_are_read;
  spells = tokens_spell {S = g.row.S.Denot} g.S.ParseScalarValue.reads g.S.ScalarValue.of_bool;
}

pub returns-clause-document : goal.returns-clause-document
returns-clause-document g c = is_document g c

pub returns-clause-only : goal.returns-clause-only
returns-clause-only g c = λ other is. c.one_document.ensures two_lines other tree is (is_document g c)

pub returns-clause-no_fault : goal.returns-clause-no_fault
returns-clause-no_fault g c = λ fault refused. c.not_both.ensures two_lines tree fault (is_document g c) refused
