use Rattle.graphql_stores.proofs.Shared.{answers-are-shared}
use Rattle.graphql_stores.proofs.laws.answers_are_shared.Goals as goal

pub returns : goal.returns
returns g c = answers-are-shared _ c.args.service.now c.plain_is_answered_alike.ensures
