use Rattle.graphql_plain_tree.proofs.DocumentSets.{document-is-its-tree}
use Rattle.graphql_plain_tree.proofs.laws.document_is_its_tree.Goals as goal

pub returns : goal.returns
returns g c = document-is-its-tree g.S.ScalarValue.answer g.S.ScalarValue.of_bool
