use Rattle.std.proofs.Common.{rules}
use Rattle.graphql_collected.specs.Requests.{is_below_in}
use Rattle.graphql_collect.proofs.collecting.is_below.Goals as goal

pub returns : goal.returns
unfolding is_below_in
returns g c = search rules
