use Rattle.graphql_lines.proofs.Named.{SoFar}
use Rattle.graphql_lines.proofs.variables.values_by_name.Given as goal

abbrev pub invariant-members : goal.invariant-members
invariant-members g l = SoFar g.S.ScalarValue.of_bool g.S.ScalarValue.of_int g.S.ScalarValue.of_text l.fn.members.entries l.key-iterator l.variables
