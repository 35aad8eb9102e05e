-- The values that variables have in the end (GraphQL October 2021, 6.1.2 Coercing Variable Values).
use Rattle.std.specs.Prelude.{List, Option}
use Rattle.std.specs.Option.{option_and_then, option_map, option_or}
use Rattle.graphql_names.specs.Names.{Bytes, named}
use Rattle.graphql_tree.specs.Variables.{Variable}
use Rattle.graphql_values.specs.declared.input_value.InputValue.{InputValue}

module _ {S : Type 0} where
  -- without the `$`
  abbrev pub variable_name : Variable S → Bytes
  variable_name v = v.0.item

  -- the definition of a name: of several of one name the first
  abbrev pub definition_named : List (Variable S) → Bytes → Option (Variable S)
  definition_named = named variable_name

  abbrev pub default_of : Variable S → Option (InputValue S)
  default_of v = option_map (λ d. d.item) v.1.default_value

  -- the default of the definition of a name
  abbrev pub default_named : List (Variable S) → Bytes → Option (InputValue S)
  default_named definitions name = option_and_then default_of (definition_named definitions name)

  -- what the request gives for a name, a null too, else the default of its definition
  abbrev pub final_value : (Bytes → Option (InputValue S)) → List (Variable S) → Bytes
      → Option (InputValue S)
  final_value given definitions name = option_or (given name) (default_named definitions name)
