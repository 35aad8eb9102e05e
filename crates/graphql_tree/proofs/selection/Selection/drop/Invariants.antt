use Rattle.graphql_tree.specs.Counts.{selection_count}
use Rattle.graphql_tree.proofs.selection.Selection.drop.Given as goal

abbrev pub decreases-selections : goal.decreases-selections
decreases-selections g l = selection_count l.self
