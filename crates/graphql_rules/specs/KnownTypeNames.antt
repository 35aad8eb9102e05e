-- A type condition or a variable's type that no type of the schema is (GraphQL October 2021,
-- 5.5.1.2 Fragment Spread Type Existence, 5.8.2 Variables Are Input Types).
use Rattle.std.specs.Prelude.{[], ◌∷◌}
use Rattle.std.specs.Option.{is_none}
use Rattle.graphql_occurrences.specs.Lookups.{known}
use Rattle.graphql_occurrences.specs.Parts.{VariableDefined, Condition}
use Rattle.graphql_rule_errors.specs.Places.{error_if}
use Rattle.graphql_visitors.specs.Rules.{Rule}

module _ {S C : Type 0} where
  -- at the condition's name, or at the variable's type, whose name stands within its wraps
  abbrev pub known_type_names_faults : Rule S C
  known_type_names_faults subject (Condition name) =
      error_if (is_none (known subject.schema name.item)) (name.span.start ∷ [])
  known_type_names_faults subject (VariableDefined v) =
      error_if (is_none (known subject.schema v.type_of.item.name)) (v.type_of.span.start ∷ [])
  known_type_names_faults subject _ = []
