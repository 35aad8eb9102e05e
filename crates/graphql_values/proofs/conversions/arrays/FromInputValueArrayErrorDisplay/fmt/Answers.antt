use Rattle.std.proofs.Common.{append_assoc}
use Rattle.graphql_values.proofs.conversions.arrays.FromInputValueArrayErrorDisplay.fmt.Goals as goal

pub returns-in-WrongCount-clause-writes : goal.returns-in-WrongCount-clause-writes
returns-in-WrongCount-clause-writes g c = rw c.in-WrongCount.is (simp append_assoc c.write.ensures.writes)
