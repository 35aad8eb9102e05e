use Rattle.graphql_stores_tests.proofs.AllowedAlike.{alike-allowed}
use Rattle.graphql_stores_tests.proofs.spelled.are_allowed_alike.Goals as goal

pub returns : goal.returns
returns g c =
    alike-allowed _ c.args.root_node.now c.same_tokens_are_allowed_alike.ensures c.args.one.now c.args.other.now c.utf8.one
    c.utf8.other c.have_same_tokens.result c.have_same_tokens.ensures
