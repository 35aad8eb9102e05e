-- An operation and a use that it reaches and does not define (GraphQL October 2021, 5.8.3 All
-- Variable Uses Defined).
use Rattle.std.specs.Prelude.{List, [], ◌∷◌, map, not}
use Rattle.std.specs.List.{flat_map}
use Rattle.graphql_names.specs.Names.{is_one_of}
use Rattle.graphql_occurrences.specs.Parts.{Use}
use Rattle.graphql_rules_document.specs.Reached.{uses_from}
use Rattle.graphql_rules_document.specs.Scopes.{FragmentScope, OperationScope}
use Rattle.graphql_rule_errors.specs.Places.{Places, error_if}

module _ {S : Type 0} where
  abbrev pub undefined_use : OperationScope S → Use → Places
  undefined_use o u =
      error_if (not (is_one_of (map (λ v. v.name.item) o.defined) u.name)) (u.place ∷ o.place ∷ [])

  abbrev pub undefined_in : List FragmentScope → OperationScope S → Places
  undefined_in fragments o = flat_map (undefined_use o) (uses_from fragments o)

  -- each use of a variable that its operation does not define
  abbrev pub no_undefined_variables_faults : List (OperationScope S) → List FragmentScope → Places
  no_undefined_variables_faults operations fragments = flat_map (undefined_in fragments) operations
