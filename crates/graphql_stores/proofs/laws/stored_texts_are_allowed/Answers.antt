use Rattle.graphql_stores.proofs.StoredTexts.{stored-allowed}
use Rattle.graphql_stores.proofs.laws.stored_texts_are_allowed.Goals as goal

pub returns : goal.returns
returns g c = stored-allowed _ c.args.root_node.now c.plain_again_is_the_same.ensures
