use Rattle.graphql_stores_tests.proofs.AnsweredAround.{around-made}
use Rattle.graphql_stores_tests.proofs.cached.answered_around_by_service.Goals as goal

pub returns : goal.returns
returns g c =
    around-made _ c.args.root_node c.args.resolver c.args.context _ _ c.in-Ok.service c.in-Ok.ensures.0 c.in-Ok.ensures.1
    c.new-cache.result c.answered_around.new.cache c.new-cache.ensures.service c.new-cache.ensures.keeps c.args.line.now c.args.other.now
    _ _ _ c.in-Ok-answered_around.ensures
