use Rattle.std.proofs.Common.{[], inr}
use Rattle.graphql_law_rows.specs.SampleTexts.{fault, nothing}
use Rattle.graphql_law_rows.specs.SampleTokens.{at, span}
use Rattle.graphql_law_rows.proofs.SampleTexts.{ends_too_early, nothing_is_read, only_end}
use Rattle.graphql_law_rows.proofs.documents.nothing_ends_too_early.Goals as goal

is_refused : goal.returns-clause-refused
is_refused g c = inr (record {
  tokens = [];
  finish = span (at 0 0 0) (at 0 0 0);
  cut = (c.reading_is_division.ensures nothing (only_end (at 0 0 0))).0 nothing_is_read;
  first = ends_too_early {S = g.row.S.Denot} g.S.ParseScalarValue.reads g.S.ScalarValue.of_bool;
})

pub returns-clause-refused : goal.returns-clause-refused
returns-clause-refused g c = is_refused g c

pub returns-clause-only : goal.returns-clause-only
returns-clause-only g c = λ other refused. c.one_fault.ensures nothing other fault refused (is_refused g c)

pub returns-clause-no_document : goal.returns-clause-no_document
returns-clause-no_document g c = λ tree is. c.not_both.ensures nothing tree fault is (is_refused g c)
