-- A variable that its operation defines, and neither it nor a fragment that it reaches uses
-- (GraphQL October 2021, 5.8.4 All Variables Used).
use Rattle.std.specs.Prelude.{List, [], ◌∷◌, map, not}
use Rattle.std.specs.List.{flat_map}
use Rattle.graphql_names.specs.Names.{Bytes, is_one_of}
use Rattle.graphql_occurrences.specs.Parts.{VariablePart}
use Rattle.graphql_rules_document.specs.Reached.{uses_from}
use Rattle.graphql_rules_document.specs.Scopes.{FragmentScope, OperationScope}
use Rattle.graphql_rule_errors.specs.Places.{Places, error_if}

module _ {S : Type 0} where
  abbrev pub unused_variable : List Bytes → VariablePart S → Places
  unused_variable used v = error_if (not (is_one_of used v.name.item)) (v.name.span.start ∷ [])

  abbrev pub unused_in : List FragmentScope → OperationScope S → Places
  unused_in fragments o =
      flat_map (unused_variable (map (λ u. u.name) (uses_from fragments o))) o.defined

  -- each variable that its operation does not use
  abbrev pub no_unused_variables_faults : List (OperationScope S) → List FragmentScope → Places
  no_unused_variables_faults operations fragments = flat_map (unused_in fragments) operations
