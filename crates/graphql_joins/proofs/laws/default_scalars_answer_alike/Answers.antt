use Rattle.graphql_joins.proofs.DefaultScalars.{default-scalars-answer-alike}
use Rattle.graphql_joins.proofs.laws.default_scalars_answer_alike.Goals as goal

pub returns : goal.returns
returns c = default-scalars-answer-alike _
