-- The values of records' fields, as a file has them.
use Rattle.std.specs.Prelude.{Bool, true, false, ◌&&◌, List, [], ◌∷◌, Option, Some, None}
use Rattle.std.specs.Prelude.{option_map}
use Rattle.serde_json.specs.Data.{Data, null, boolean, number, string, array, object, Items}
use Rattle.serde_json.specs.Data.{no_items, item, Members, no_members, member}
use Rattle.graphql_json.specs.Parts.{◌>>=◌}
use Rattle.graphql_lines.specs.Variables.{whole_of}
use Rattle.graphql_scalars.specs.declared.default_scalar.DefaultScalarValue.TheVariants as scalar
use Rattle.graphql_records.specs.Settings.{Fields}
use Rattle.graphql_records.specs.declared.field_value.FieldValue.{FieldValue}
use Rattle.graphql_records.specs.declared.field_value.FieldValue.TheVariants as value

-- null, a truth value, a number, a text, or a list of these, which may nest
abbrev mutual
  pub has_shape : Data → Bool
  has_shape null = true
  has_shape (boolean b) = true
  has_shape (number n) = true
  has_shape (string s) = true
  has_shape (array ds) = have_shape ds
  has_shape (object ms) = false

  pub have_shape : Items → Bool
  have_shape no_items = true
  have_shape (item d ds) = has_shape d && have_shape ds

-- each member is such a value
abbrev pub fields_have_shape : Members → Bool
fields_have_shape no_members = true
fields_have_shape (member k d ms) = has_shape d && fields_have_shape ms

-- the value of a field; none where a number in it is no whole one of 32 bits, or it has not the
-- shape
abbrev mutual
  pub file_value : Data → Option FieldValue
  file_value null = Some value.Null
  file_value (boolean b) = Some (value.Scalar (scalar.Boolean b))
  file_value (number n) = option_map (λ z. value.Scalar (scalar.Int z)) (whole_of n)
  file_value (string s) = Some (value.Scalar (scalar.String s))
  file_value (array ds) = option_map value.List (file_values ds)
  file_value (object ms) = None

  pub file_values : Items → Option (List FieldValue)
  file_values no_items = Some []
  file_values (item d ds) = do
    v ← file_value d
    vs ← file_values ds
    Some (v ∷ vs)

-- the fields, by their names; none where the value of one is none
abbrev pub file_fields : Members → Option Fields
file_fields no_members = Some []
file_fields (member k d ms) = do
  v ← file_value d
  fs ← file_fields ms
  Some ((k, v) ∷ fs)
