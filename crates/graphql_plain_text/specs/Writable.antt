-- Which input values can be read from their texts (GraphQL October 2021, 2.9 Input Values).
use Rattle.std.specs.Prelude.{◌≡◌, ◌≢◌, ℕ, ℤ, Bool, false, List, [], ◌∷◌, FitsSigned, codes}
use Rattle.std.specs.Str.{chars, IsUtf8}
use mir.Syntax.{w32}
use Rattle.graphql_text.specs.Grammar.{Each, IsName, is_string_character}
use Rattle.graphql_scalars.specs.declared.default_scalar.DefaultScalarValue.{DefaultScalarValue}
use Rattle.graphql_scalars.specs.declared.default_scalar.DefaultScalarValue.TheVariants as scalar
use Rattle.graphql_scalars.specs.DefaultScalar.{scalar_answer}
use Rattle.graphql_values.specs.declared.input_value.InputValue.{InputValue}
use Rattle.graphql_values.specs.declared.input_value.InputValue.TheVariants as v
use Rattle.graphql_values.specs.InputValues.{Placed, Pair}
use Rattle.graphql_values.specs.InputValueText.{input_value_text}

-- a value of the default scalars
abbrev pub Value : Type 0
Value = InputValue DefaultScalarValue

-- the text of a value
abbrev pub value_text : Value → List ℕ
value_text = input_value_text scalar_answer

-- the bytes of characters among which is no quote, no backslash and no control but a tab (2.9.4
-- String Value)
pub record IsPlain (text : List ℕ) : Type 0 where
  pub utf8 : IsUtf8 text
  pub plain : Each is_string_character (chars text)

-- a name that is not `true`, `false` or `null` (2.9.6 Enum Value); its bytes are its characters
pub record IsEnum (name : List ℕ) : Type 0 where
  pub is : IsName name
  pub not_true : name ≢ codes "true"
  pub not_false : name ≢ codes "false"
  pub not_null : name ≢ codes "null"

mutual
  -- Integers have 32 bits, texts are plain; enums, variables and keys have names of their kind. A
  -- constant holds no variable.
  pub data IsWritable (is_const : Bool) : Value → Type 0 where
    null : IsWritable is_const v.Null
    integer : (n : ℤ) → FitsSigned w32 n → IsWritable is_const (v.Scalar (scalar.Int n))
    string : (text : List ℕ) → IsPlain text → IsWritable is_const (v.Scalar (scalar.String text))
    boolean : (b : Bool) → IsWritable is_const (v.Scalar (scalar.Boolean b))
    enum : (name : List ℕ) → IsEnum name → IsWritable is_const (v.Enum name)
    variable : (name : List ℕ) → is_const ≡ false → IsName name
        → IsWritable is_const (v.Variable name)
    list : (xs : List (Placed Value)) → AreWritable is_const xs → IsWritable is_const (v.List xs)
    object : (ps : List (Pair Value)) → FieldsAreWritable is_const ps
        → IsWritable is_const (v.Object ps)

  pub data AreWritable (is_const : Bool) : List (Placed Value) → Type 0 where
    no_items : AreWritable is_const []
    more_items : (x : Placed Value) (xs : List (Placed Value)) → IsWritable is_const x.item
        → AreWritable is_const xs → AreWritable is_const (x ∷ xs)

  pub data FieldsAreWritable (is_const : Bool) : List (Pair Value) → Type 0 where
    no_fields : FieldsAreWritable is_const []
    more_fields : (p : Pair Value) (ps : List (Pair Value)) → IsName p.0.item
        → IsWritable is_const p.1.item → FieldsAreWritable is_const ps
        → FieldsAreWritable is_const (p ∷ ps)
