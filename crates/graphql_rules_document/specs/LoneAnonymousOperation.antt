-- An anonymous operation beside others (GraphQL October 2021, 5.2.2.1 Lone Anonymous Operation).
use Rattle.std.specs.Prelude.{ℕ, List, [], ◌∷◌, ◌&&◌, not, length, nat_lt}
use Rattle.std.specs.List.{flat_map}
use Rattle.std.specs.Option.{is_some}
use Rattle.graphql_rules_document.specs.Scopes.{OperationScope}
use Rattle.graphql_rule_errors.specs.Places.{Places, error_if}

module _ {S : Type 0} where
  -- of so many operations
  abbrev pub anonymous_among : ℕ → OperationScope S → Places
  anonymous_among count o = error_if (not (is_some o.name) && nat_lt 1 count) (o.place ∷ [])

  -- each operation without a name that is not alone
  abbrev pub lone_anonymous_operation_faults : List (OperationScope S) → Places
  lone_anonymous_operation_faults operations =
      flat_map (anonymous_among (length operations)) operations
