use Rattle.std.proofs.Common.{rules}
use Rattle.graphql_collected.specs.Requests.{drops_in}
use Rattle.graphql_collected.proofs.leaving_out.drops.Goals as goal

pub returns : goal.returns
unfolding drops_in
returns g c = search rules
