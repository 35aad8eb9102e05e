use Rattle.graphql_plain_tree.proofs.FilledSets.{same-empty, filled-plain}
use Rattle.graphql_plain_tree.proofs.laws.stays_filled.Goals as goal

pub returns : goal.returns
returns g c = λ drops stand_in set. (same-empty drops stand_in set, filled-plain drops stand_in set)
