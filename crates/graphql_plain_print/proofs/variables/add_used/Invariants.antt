use Rattle.std.proofs.Common.{◌++◌, take}
use Rattle.graphql_plain_tree.specs.PlainOperations.{variables_given}
use Rattle.graphql_plain_print.specs.NameSets.{AreSame}
use Rattle.graphql_plain_print.proofs.variables.add_used.Given as goal

abbrev pub invariant-loop-argument : goal.invariant-loop-argument
invariant-loop-argument g l = AreSame l.used.keys (l.initial.used.keys ++ variables_given (take l.argument-index l.arguments))
