use Rattle.std.proofs.Common.{map, take}
use Rattle.std.specs.List.{flat_map}
use Rattle.graphql_rules_document.specs.Lent.{operation_of}
use Rattle.graphql_rule_errors.specs.Places.{Reports}
use Rattle.graphql_rule_errors.specs.Repeats.{repeats}
use Rattle.graphql_rules_document.specs.UniqueVariableNames.{variable_mention}
use Rattle.graphql_rules_document.proofs.unique_variable_names.unique_variable_names.Given as goal

abbrev pub invariant-operations : goal.invariant-operations
invariant-operations g l = Reports (flat_map (λ o. repeats (map variable_mention o.defined)) (map operation_of (take l.operation-index l.operations))) l.initial.errors l.errors
