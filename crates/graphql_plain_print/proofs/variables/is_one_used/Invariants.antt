use Rattle.std.proofs.Common.{◌≡◌, drop}
use Rattle.graphql_plain_tree.specs.PlainOperations.{definitions_used}
use Rattle.graphql_plain_print.proofs.variables.is_one_used.Given as goal

abbrev pub invariant-loop-definition : goal.invariant-loop-definition
invariant-loop-definition g l = definitions_used l.used.keys l.definitions ≡ definitions_used l.used.keys (drop l.definition-index l.definitions)
