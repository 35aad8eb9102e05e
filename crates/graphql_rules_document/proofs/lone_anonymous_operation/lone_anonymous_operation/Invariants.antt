use Rattle.std.proofs.Common.{map, take}
use Rattle.std.specs.List.{flat_map}
use Rattle.graphql_rules_document.specs.Lent.{operation_of}
use Rattle.graphql_rules_document.specs.LoneAnonymousOperation.{anonymous_among}
use Rattle.graphql_rule_errors.specs.Places.{Reports}
use Rattle.graphql_rules_document.proofs.lone_anonymous_operation.lone_anonymous_operation.Given as goal

abbrev pub invariant-operations : goal.invariant-operations
invariant-operations g l = Reports (flat_map (anonymous_among l.count) (map operation_of (take l.operation-index l.operations))) l.initial.errors l.errors
