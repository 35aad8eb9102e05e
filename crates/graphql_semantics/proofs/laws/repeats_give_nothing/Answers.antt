use Rattle.graphql_semantics.proofs.RunRepeats.{repeats-give-nothing}
use Rattle.graphql_semantics.proofs.laws.repeats_give_nothing.Goals as goal

pub returns : goal.returns
returns g c = repeats-give-nothing _ _
