-- What is given to arguments, wherever it stands: at each path of names what stands there (GraphQL
-- October 2021, 6.4.1 Coercing Field Arguments).
use Rattle.std.specs.Prelude.{List, [], ◌∷◌, map, Option, Some, None}
use Rattle.std.specs.List.{find}
use Rattle.std.specs.Option.{option_and_then, option_map}
use Rattle.std.specs.Str.{bytes_eq}
use Rattle.graphql_names.specs.Names.{Bytes}
use Rattle.graphql_scalars.specs.declared.default_scalar.DefaultScalarValue.{DefaultScalarValue}
use Rattle.graphql_scalars.specs.declared.default_scalar.DefaultScalarValue.TheVariants as scalar
use Rattle.graphql_values.specs.InputValues.{Pair, Placed}
use Rattle.graphql_values.specs.declared.input_value.InputValue.{InputValue, out-InputValue}
use Rattle.graphql_values.specs.declared.input_value.InputValue.TheOpen.{InputValue-F}
use Rattle.graphql_arguments.specs.ArgumentValues.{Given, value_named}

-- what stands at a place of input: of a list each item's leaf, or nothing where the item is none;
-- the fields of an input object stand at paths of their own; no given value is a variable
pub data Input : Type 0 where
  null : Input
  leaf : DefaultScalarValue → Input
  items : List (Option DefaultScalarValue) → Input
  fields : Input
  variable : Input

abbrev pub leaf_layer : {X : Type 0} → InputValue-F DefaultScalarValue X → Option DefaultScalarValue
leaf_layer (InputValue-F.Scalar s) = Some s
leaf_layer (InputValue-F.Enum name) = Some (scalar.String name)
leaf_layer InputValue-F.Null = None
leaf_layer (InputValue-F.Variable name) = None
leaf_layer (InputValue-F.List xs) = None
leaf_layer (InputValue-F.Object pairs) = None

-- the scalar, or the name of the enum value as a text (3.9 Enums); nothing of any other value
abbrev pub leaf_of : InputValue DefaultScalarValue → Option DefaultScalarValue
leaf_of v = leaf_layer (out-InputValue DefaultScalarValue v)

abbrev pub leaves_of : List (Placed (InputValue DefaultScalarValue))
    → List (Option DefaultScalarValue)
leaves_of xs = map (λ x. leaf_of x.item) xs

abbrev pub input_layer : InputValue-F DefaultScalarValue (InputValue DefaultScalarValue) → Input
input_layer InputValue-F.Null = null
input_layer (InputValue-F.Scalar s) = leaf s
input_layer (InputValue-F.Enum name) = leaf (scalar.String name)
input_layer (InputValue-F.Variable name) = variable
input_layer (InputValue-F.List xs) = items (leaves_of xs)
input_layer (InputValue-F.Object pairs) = fields

abbrev pub read_input : InputValue DefaultScalarValue → Input
read_input v = input_layer (out-InputValue DefaultScalarValue v)

-- the value of the first field of this name
abbrev pub field_named : List (Pair (InputValue DefaultScalarValue)) → Bytes
    → Option (InputValue DefaultScalarValue)
field_named pairs name = option_map (λ p. p.1.item) (find (λ p. bytes_eq p.0.item name) pairs)

abbrev pub field_layer : InputValue-F DefaultScalarValue (InputValue DefaultScalarValue)
    → Bytes → Option (InputValue DefaultScalarValue)
field_layer InputValue-F.Null name = None
field_layer (InputValue-F.Scalar s) name = None
field_layer (InputValue-F.Enum n) name = None
field_layer (InputValue-F.Variable n) name = None
field_layer (InputValue-F.List xs) name = None
field_layer (InputValue-F.Object pairs) name = field_named pairs name

-- the field of this name of an input object
abbrev pub input_field : InputValue DefaultScalarValue → Bytes
    → Option (InputValue DefaultScalarValue)
input_field v = field_layer (out-InputValue DefaultScalarValue v)

-- what stands at each path of names; nothing where nothing is given
abbrev pub Inputs : Type 0
Inputs = List Bytes → Option Input

-- in a value
abbrev pub input_at : List Bytes → InputValue DefaultScalarValue → Option Input
input_at [] v = Some (read_input v)
input_at (name ∷ path) v = option_and_then (input_at path) (input_field v name)

-- where this is what stands under each name
abbrev pub inputs_named : (Bytes → Option (InputValue DefaultScalarValue)) → Inputs
inputs_named named [] = Some fields
inputs_named named (name ∷ path) = option_and_then (input_at path) (named name)

-- of a field's arguments
abbrev pub inputs_of : Given DefaultScalarValue → Inputs
inputs_of given = inputs_named (value_named given)

-- of the fields of an input object
abbrev pub inputs_in : List (Pair (InputValue DefaultScalarValue)) → Inputs
inputs_in pairs = inputs_named (field_named pairs)
