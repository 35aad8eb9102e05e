use Rattle.graphql_plain_validity.proofs.LocalRules.{introspection-stays}
use Rattle.graphql_plain_validity.proofs.rules.nothing_is_introspected_still.Goals as goal

pub returns : goal.returns
returns g c = introspection-stays _ _
