use Rattle.graphql_plain_tree.proofs.PlainFields.{fields-plain}
use Rattle.graphql_plain_tree.proofs.laws.fields_of_plain.Goals as goal

pub returns : goal.returns
returns g c = fields-plain
