use Rattle.graphql_values.proofs.SameValueLaws.{same_as_itself, either_way, by_a_third}
use Rattle.graphql_values.proofs.laws.same_value_is_an_equivalence.Goals as goal

pub returns-clause-itself : goal.returns-clause-itself
returns-clause-itself g c = same_as_itself _ g.met.S.Eq.laws

pub returns-clause-either_way : goal.returns-clause-either_way
returns-clause-either_way g c = either_way _ g.met.S.Eq.laws

pub returns-clause-by_a_third : goal.returns-clause-by_a_third
returns-clause-by_a_third g c = by_a_third _ g.met.S.Eq.laws
