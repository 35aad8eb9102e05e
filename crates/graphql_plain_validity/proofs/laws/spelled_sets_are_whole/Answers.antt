use Rattle.graphql_plain_validity.proofs.SpelledSets.{document-whole}
use Rattle.graphql_plain_validity.proofs.laws.spelled_sets_are_whole.Goals as goal

pub returns : goal.returns
returns g c = document-whole g.S.ParseScalarValue.reads g.S.ScalarValue.of_bool
