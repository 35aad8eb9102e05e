use Rattle.graphql_stores.proofs.StoredTexts.{texts-stand}
use Rattle.graphql_stores.proofs.laws.stored_texts_stand_for_requests.Goals as goal

pub returns : goal.returns
returns g c =
    texts-stand _ c.args.root_node.now _ c.plain_again_is_the_same.ensures c.plain_means_the_same.ensures
    c.plain_is_answered_too.ensures
