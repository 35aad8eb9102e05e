-- A value and the data that it is, and data in which a number is too wide.
use Rattle.std.specs.Prelude.{[], ◌∷◌, List, pos, negsuc, true, codes}
use Rattle.serde_json.specs.Data.{Data, null, boolean, number, string, array, object, no_items}
use Rattle.serde_json.specs.Data.{item, no_members, member}
use Rattle.serde_json.specs.Find.{of_integer}
use Rattle.graphql_scalars.specs.declared.default_scalar.DefaultScalarValue.{DefaultScalarValue}
use Rattle.graphql_scalars.specs.declared.default_scalar.DefaultScalarValue.TheVariants as scalar
use Rattle.graphql_output_values.specs.declared.object.Object.{Object}
use Rattle.graphql_output_values.specs.declared.value.Value.{Value}
use Rattle.graphql_output_values.specs.declared.value.Value.TheVariants as value

-- `{"c":[null,true,-7]}`
abbrev pub list : Value DefaultScalarValue
list = value.List
    (value.Null ∷ value.Scalar (scalar.Boolean true) ∷ value.Scalar (scalar.Int (negsuc 6)) ∷ [])

abbrev pub sample : Object DefaultScalarValue
sample = record { fields = (codes "c", list) ∷ [] }

abbrev pub list_data : Data
list_data = array (item null (item (boolean true) (item (number (of_integer (negsuc 6))) no_items)))

abbrev pub sample_data : Data
sample_data = object (member (codes "c") list_data no_members)

-- `["$x",2147483648]`
abbrev pub too_wide : Data
too_wide = array (item (string (codes "$x")) (item (number (of_integer (pos 2147483648))) no_items))

-- `["$x"]`
abbrev pub text_data : Data
text_data = array (item (string (codes "$x")) no_items)
