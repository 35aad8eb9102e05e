-- The argument values of a field (GraphQL October 2021, 6.4.1 Coercing Field Arguments).
use Rattle.std.specs.Prelude.{◌++◌, Bool, List, [], ◌∷◌, Option, fold, if◌then◌else◌}
use Rattle.std.specs.List.{filter_map, find, list_any}
use Rattle.std.specs.Option.{option_map}
use Rattle.std.specs.Str.{bytes_eq}
use Rattle.graphql_names.specs.Names.{Bytes}
use Rattle.graphql_values.specs.InputValues.{Placed, unplaced}
use Rattle.graphql_values.specs.declared.input_value.InputValue.{InputValue}
use Rattle.graphql_schema.specs.declared.meta.argument.Argument.{Argument}
use Rattle.graphql_tree.specs.Arguments.{Argument as Written}
use Rattle.graphql_written_out.specs.Filled.{filled}

-- a name with a value, at its place
abbrev pub NamedValue : Type 0 → Type 0
NamedValue S = Bytes × Placed (InputValue S)

-- argument values: names with values, in order
abbrev pub Given : Type 0 → Type 0
Given S = List (NamedValue S)

module _ {S : Type 0} where
  abbrev pub has_value : Given S → Bytes → Bool
  has_value values name = list_any (λ p. bytes_eq p.0 name) values

  -- the value of the first of this name
  abbrev pub value_named : Given S → Bytes → Option (InputValue S)
  value_named values name = option_map (λ p. p.1.item) (find (λ p. bytes_eq p.0 name) values)

  -- a written argument, at the place of its value; nothing where it is a variable without a value
  abbrev pub filled_argument : (Bytes → Option (InputValue S)) → Written S → Option (NamedValue S)
  filled_argument given a =
      option_map (λ v. (a.0.item, record { item = v; span = a.1.span })) (filled given a.1.item)

  -- the default of a declared argument, in no text
  abbrev pub default_of : Argument S → Option (NamedValue S)
  default_of a = option_map (λ v. (a.name, unplaced v)) a.default_value

  -- the values that are written and given, in order
  abbrev pub written_values : (Bytes → Option (InputValue S)) → List (Written S) → Given S
  written_values given written = filter_map (filled_argument given) written

  -- the defaults of declared arguments, in order
  abbrev pub declared_defaults : List (Argument S) → Given S
  declared_defaults declared = filter_map default_of declared

  -- the values with one more, last, unless there is one of its name
  abbrev pub with_value : Given S → NamedValue S → Given S
  with_value values v = if has_value values v.0 then values else values ++ v ∷ []

  -- the values with more of them, in turn
  abbrev pub with_values : Given S → Given S → Given S
  with_values values more = fold with_value values more

  -- the written arguments that have a value, then the defaults of the declared ones: of each name
  -- the first value, so the defaults of those that are absent
  abbrev pub argument_values : (Bytes → Option (InputValue S)) → List (Argument S)
      → List (Written S) → Given S
  argument_values given declared written =
      with_values [] (written_values given written ++ declared_defaults declared)
