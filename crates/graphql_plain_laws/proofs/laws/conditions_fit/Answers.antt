use Rattle.graphql_written_out.specs.FinalVariables.{value_in}
use Rattle.graphql_plain_laws.proofs.laws.conditions_fit.Goals as goal

pub returns : goal.returns
returns g c = c.stand_in_leaves_out.ensures (value_in c.args.variables.now)
