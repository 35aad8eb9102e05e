-- A variable whose type is known, and an object, an interface or a union (GraphQL October 2021,
-- 5.8.2 Variables Are Input Types).
use Rattle.std.specs.Prelude.{[], ◌∷◌}
use Rattle.graphql_names.specs.Names.{passes}
use Rattle.graphql_occurrences.specs.Lookups.{known}
use Rattle.graphql_occurrences.specs.Parts.{VariableDefined}
use Rattle.graphql_rule_errors.specs.Places.{error_if}
use Rattle.graphql_schema.specs.Faults.{is_composite}
use Rattle.graphql_visitors.specs.Rules.{Rule}

module _ {S C : Type 0} where
  -- at the variable's type
  abbrev pub variables_are_input_types_faults : Rule S C
  variables_are_input_types_faults subject (VariableDefined v) = error_if
      (passes is_composite (known subject.schema v.type_of.item.name)) (v.type_of.span.start ∷ [])
  variables_are_input_types_faults subject _ = []
