use Rattle.graphql_stores.proofs.StoredTexts.{tokens-allowed}
use Rattle.graphql_stores.proofs.laws.same_tokens_are_allowed_alike.Goals as goal

pub returns : goal.returns
returns g c = tokens-allowed _ c.args.root_node.now c.same_tokens_are_asked_alike.ensures
