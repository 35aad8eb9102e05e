use Rattle.std.proofs.Common.{subst, sym}
use Rattle.graphql_collected.specs.Requests.{fragments_in}
use Rattle.graphql_written_out.specs.Written.{Settled}
use Rattle.graphql_service_tests.proofs.executor.look_ahead.look.tell_below.Goals as goal

pub children-requires-2 : goal.children-requires-2
children-requires-2 g c =
    let request = c.args.field.now.request.now in
    let one = rw c.in-Some.is at c.select.ensures.request request c.in_ok-children.ensures.request in
    subst (λ r. Settled (fragments_in r)) (sym one) c.requires
