use Rattle.graphql_plain_tree.proofs.StandInLaws.{stand-in-leaves-out}
use Rattle.graphql_plain_tree.proofs.laws.stand_in_leaves_out.Goals as goal

pub returns : goal.returns
returns g c = stand-in-leaves-out g.S.ScalarValue.answer g.S.ScalarValue.of_bool g.met.S.ScalarValue.bool_answers
