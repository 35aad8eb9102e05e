use Rattle.graphql_visitors.proofs.RuleLemmas.{runs_silent}
use Rattle.graphql_visitors.proofs.laws.no_visitor_tells_nothing.Goals as goal

pub returns : goal.returns
returns g c = λ subject v w es told runs. runs_silent subject v w es told runs
