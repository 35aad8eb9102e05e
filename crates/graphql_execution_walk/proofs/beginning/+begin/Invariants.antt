use Rattle.std.proofs.Common.{length}
use Rattle.graphql_execution_walk.proofs.beginning.+begin.Given as goal

abbrev pub decreases-begin : goal.decreases-begin
decreases-begin g l = length l.wraps.now
