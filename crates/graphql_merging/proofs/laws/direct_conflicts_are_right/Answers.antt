use Rattle.graphql_merging.proofs.DirectFields.{direct-conflicts-are-named, direct-conflicts-are-conflicts}
use Rattle.graphql_merging.proofs.laws.direct_conflicts_are_right.Goals as goal

pub returns-clause-named : goal.returns-clause-named
returns-clause-named g c = direct-conflicts-are-named _ _ _

pub returns-clause-conflicts : goal.returns-clause-conflicts
returns-clause-conflicts g c = direct-conflicts-are-conflicts _ _ _
