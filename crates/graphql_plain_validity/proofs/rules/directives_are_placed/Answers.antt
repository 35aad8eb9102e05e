use Rattle.graphql_plain_validity.proofs.LocalRules.{directives-are-placed}
use Rattle.graphql_plain_validity.proofs.rules.directives_are_placed.Goals as goal

pub returns : goal.returns
returns g c = λ schema standard. directives-are-placed _ _ schema standard
