use Rattle.std.proofs.Common.{◌≡◌, map, take}
use Rattle.std.specs.List.{flat_map}
use Rattle.graphql_rules_document.specs.Lent.{operation_of, spread_of}
use Rattle.graphql_rules_document.proofs.no_unused_fragments.all_spreads.Given as goal

abbrev pub invariant-operations : goal.invariant-operations
invariant-operations g l = map spread_of l.spreads ≡ flat_map (λ o. o.spreads) (map operation_of (take l.operation-index l.operations))
