use Rattle.graphql_plain_validity.proofs.SpelledDefaults.{spelled-defaults}
use Rattle.graphql_plain_validity.proofs.variables.spelled_defaults_are_constant.Goals as goal

pub returns : goal.returns
returns g c = spelled-defaults _ _
