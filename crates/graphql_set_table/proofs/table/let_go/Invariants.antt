use Rattle.std.proofs.Common.{length}
use Rattle.graphql_set_table.proofs.table.let_go.Given as goal

abbrev pub decreases-sets : goal.decreases-sets
decreases-sets g l = length l.sets
