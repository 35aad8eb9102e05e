-- What holds of the values of variables (GraphQL October 2021, 6.1.2 Coercing Variable Values).
use Rattle.std.specs.Prelude.{◌≡◌, ◌↔◌, true, List, [], map, Option, Some, None}
use Rattle.std.specs.List.{Contains, IsDistinct}
use Rattle.std.specs.Option.{ForSome, IsSome}
use Rattle.std.specs.Str.{bytes_eq}
use Rattle.graphql_written_out.specs.FinalValues.{default_of, definition_named, final_value}
use Rattle.graphql_written_out.specs.FinalValues.{variable_name}
use Rattle.graphql_literal_checks.specs.Conforms.{Conforms}
use Rattle.graphql_schema.specs.Scalars.{Scalars}
use Rattle.graphql_schema.specs.Types.{refuses_null}
use Rattle.graphql_literal_checks.specs.declared.source.Source.TheVariants.{Sent}
use Rattle.graphql_schema.specs.declared.meta.MetaType.{MetaType}
use Rattle.graphql_names.specs.Names.{Bytes}
use Rattle.graphql_rule_errors.specs.Places.{Places}
use Rattle.graphql_tree.specs.Variables.{Variable}
use Rattle.graphql_values.specs.declared.input_value.InputValue.{InputValue}
use Rattle.graphql_variable_checks.specs.Accepted.{AreAccepted, IsKnown, Refusals, variable_type}

module _ {S C : Type 0} (scalars : Scalars S C) where
  -- what is told is determined, whatever the checks of types answer
  abbrev pub ToldIsDetermined : Type 0
  ToldIsDetermined = (types : List (MetaType S C)) (given : Bytes → Option (InputValue S))
      (definitions : List (Variable S)) (told other : Places)
      → Refusals scalars types given definitions told
      → Refusals scalars types given definitions other → told ≡ other

  -- nothing is told exactly where each definition accepts what is given
  abbrev pub NoneToldWhereAccepted : Type 0
  NoneToldWhereAccepted = (types : List (MetaType S C)) (given : Bytes → Option (InputValue S))
      (definitions : List (Variable S))
      → Refusals scalars types given definitions []
      ↔ AreAccepted scalars types given definitions

  -- where nothing is told, each value that is given for a variable of a known type is its final
  -- value, and conforms
  abbrev pub GivenValuesConform : Type 0
  GivenValuesConform = (types : List (MetaType S C)) (given : Bytes → Option (InputValue S))
      (definitions : List (Variable S)) → Refusals scalars types given definitions []
      → (v : Variable S) → Contains definitions v → IsKnown types v
      → ForSome (given (variable_name v))
      (λ value. (final_value given definitions (variable_name v) ≡ Some value)
      × Conforms scalars types Sent (variable_type v) value)

  -- where nothing is told, a variable of a known type without null has a final value
  abbrev pub NonNullHaveValues : Type 0
  NonNullHaveValues = (types : List (MetaType S C)) (given : Bytes → Option (InputValue S))
      (definitions : List (Variable S)) → Refusals scalars types given definitions []
      → (name : Bytes) (v : Variable S) → definition_named definitions name ≡ Some v
      → IsKnown types v
      → refuses_null (variable_type v) ≡ true → IsSome (final_value given definitions name)

module _ (S : Type 0) where
  -- what is given for a name is its final value, also where it is null; where nothing is given, the
  -- default of its definition; without a default, or a definition, there is none
  abbrev pub ValuesAreGivenOrDefaults : Type 0
  ValuesAreGivenOrDefaults =
      (given : Bytes → Option (InputValue S)) (definitions : List (Variable S)) (name : Bytes)
      → ((value : InputValue S) → given name ≡ Some value
      → final_value given definitions name ≡ Some value)
      × ((v : Variable S) → given name ≡ None → definition_named definitions name ≡ Some v
      → final_value given definitions name ≡ default_of v)
      × (given name ≡ None → definition_named definitions name ≡ None
      → final_value given definitions name ≡ None)

  -- where names are distinct, each definition is that of its name (5.8.1 Variable Uniqueness)
  abbrev pub DistinctNamesAreFound : Type 0
  DistinctNamesAreFound =
      (definitions : List (Variable S)) → IsDistinct bytes_eq (map variable_name definitions)
      → (v : Variable S) → Contains definitions v
      → definition_named definitions (variable_name v) ≡ Some v
