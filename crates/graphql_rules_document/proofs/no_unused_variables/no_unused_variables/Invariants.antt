use Rattle.std.proofs.Common.{map, take}
use Rattle.std.specs.List.{flat_map}
use Rattle.graphql_rules_document.specs.Lent.{fragment_of, operation_of}
use Rattle.graphql_rules_document.specs.NoUnusedVariables.{unused_in}
use Rattle.graphql_rule_errors.specs.Places.{Reports}
use Rattle.graphql_rules_document.proofs.no_unused_variables.no_unused_variables.Given as goal

abbrev pub invariant-operations : goal.invariant-operations
invariant-operations g l = Reports (flat_map (unused_in (map fragment_of l.index.fragments.now)) (map operation_of (take l.operation-index l.operations))) l.initial.errors l.errors
