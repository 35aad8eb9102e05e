use Rattle.graphql_plain_validity.proofs.DefinedUses.{uses-stay-defined}
use Rattle.graphql_plain_validity.proofs.variables.uses_stay_defined.Goals as goal

pub returns : goal.returns
returns g c = uses-stay-defined g.S.ScalarValue.answer g.S.ScalarValue.of_bool g.met.S.ScalarValue.bool_answers
