use Rattle.graphql_plain_validity.proofs.AllowedUses.{uses-stay-allowed}
use Rattle.graphql_plain_validity.proofs.variables.uses_stay_allowed.Goals as goal

pub returns : goal.returns
returns g c = uses-stay-allowed _ _
