use Rattle.std.proofs.Common.{◌≡◌, map, take}
use Rattle.std.specs.List.{flat_map}
use Rattle.graphql_rules_document.specs.Lent.{operation_of}
use Rattle.graphql_rule_errors.specs.Repeats.{mention_lent}
use Rattle.graphql_rules_document.specs.UniqueOperationNames.{operation_mention}
use Rattle.graphql_rules_document.proofs.unique_operation_names.operation_names.Given as goal

abbrev pub invariant-operations : goal.invariant-operations
invariant-operations g l = map mention_lent l.mentions ≡ flat_map operation_mention (map operation_of (take l.operation-index l.operations))
