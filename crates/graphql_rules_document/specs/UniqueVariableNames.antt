-- Names that stand more than once among the variables of an operation (GraphQL October 2021, 5.8.1
-- Variable Uniqueness).
use Rattle.std.specs.Prelude.{List, map}
use Rattle.std.specs.List.{flat_map}
use Rattle.graphql_occurrences.specs.Parts.{VariablePart}
use Rattle.graphql_rules_document.specs.Scopes.{OperationScope}
use Rattle.graphql_rule_errors.specs.Places.{Places}
use Rattle.graphql_rule_errors.specs.Repeats.{Mention, mention, repeats}

module _ {S : Type 0} where
  abbrev pub variable_mention : VariablePart S → Mention
  variable_mention v = mention v.name

  -- each name that a second variable of an operation has
  abbrev pub unique_variable_names_faults : List (OperationScope S) → Places
  unique_variable_names_faults operations =
      flat_map (λ o. repeats (map variable_mention o.defined)) operations
