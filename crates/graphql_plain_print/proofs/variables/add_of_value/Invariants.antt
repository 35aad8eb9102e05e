use Rattle.std.proofs.Common.{◌++◌, take}
use Rattle.graphql_plain_print.specs.NameSets.{AreSame}
use Rattle.graphql_plain_print.proofs.variables.add_of_value.Given as goal

abbrev pub invariant-loop-name : goal.invariant-loop-name
invariant-loop-name g l = AreSame l.used.keys (l.initial.used.keys ++ take l.name-index l.name-items)
