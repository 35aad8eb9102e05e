-- A variable's default that does not conform to the variable's type (GraphQL October 2021, 5.6.1
-- Values of Correct Type).
use Rattle.std.specs.Prelude.{List, [], if◌then◌else◌}
use Rattle.std.specs.Option.{is_some, option_map, option_to_list}
use Rattle.graphql_occurrences.specs.Lookups.{known}
use Rattle.graphql_occurrences.specs.Parts.{Part, VariablePart, VariableDefined}
use Rattle.graphql_schema.specs.Scalars.{Scalars}
use Rattle.graphql_schema.specs.Declarations.{Declarations}
use Rattle.graphql_values.specs.InputValues.{Placed}
use Rattle.graphql_values.specs.declared.input_value.InputValue.{InputValue}
use Rattle.graphql_visitors.specs.Rules.{Relation}
use Rattle.graphql_rules.specs.Literals.{Asked, Misfits}

-- at the variable's own type, with its wraps
abbrev pub asked_default : {S : Type 0} → VariablePart S → Placed (InputValue S) → Asked S
asked_default v default = record { type_of = v.type_of.item; literal = default }

module _ {S C : Type 0} (schema : Declarations S C) where
  -- the default, where there is one and the variable's type is known
  abbrev pub defaults_asked : VariablePart S → List (Asked S)
  defaults_asked v = if is_some (known schema v.type_of.item.name)
      then option_to_list (option_map (asked_default v) v.default) else []

  abbrev pub defaults_at : Part S C → List (Asked S)
  defaults_at (VariableDefined v) = defaults_asked v
  defaults_at _ = []

module _ {S C : Type 0} (scalars : Scalars S C) where
  -- each default that does not conform
  abbrev pub default_values_of_correct_type_faults : Relation S C
  default_values_of_correct_type_faults subject part =
      Misfits scalars subject.schema.types (defaults_at subject.schema part)
