use Rattle.graphql_semantics.proofs.TurnLaws.{turns-of-all_groups}
use Rattle.graphql_semantics.proofs.laws.turns_of_groups.Goals as goal

pub returns : goal.returns
returns g c = turns-of-all_groups _ _
