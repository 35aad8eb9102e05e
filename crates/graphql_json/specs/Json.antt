-- JSON texts, byte by byte (RFC 8259; GraphQL October 2021, 7.2 Serialization Format, 7.2.2
-- Serialized Map Ordering).
use Rattle.std.specs.Prelude.{ℕ, ◌+◌, ◌-◌, ◌/◌, ◌%◌, ◌==◌, nat_lt, ℤ, Bool, true, false, List, []}
use Rattle.std.specs.Prelude.{◌∷◌, ◌++◌, map, if◌then◌else◌, codes, Option, Some, None}
use Rattle.std.specs.Fmt.{signed_decimal}
use Rattle.std.specs.List.{flat_map}
use Rattle.graphql_output_values.specs.Steps.{Step, Null, Scalar, ListOpens, ListCloses}
use Rattle.graphql_output_values.specs.Steps.{ObjectOpens, ObjectCloses, Key, Gap}
use Rattle.graphql_output_values.specs.declared.object.Object.{Object, fold-Object}
use Rattle.graphql_output_values.specs.declared.value.Value.{Value, fold-Value}
use Rattle.graphql_output_values.specs.declared.value.Value.TheOpen.{Value-F, Object-F}
use Rattle.graphql_scalars.specs.ScalarAnswers.{ScalarAnswer, as_int, as_bool, as_text}

abbrev pub hex_digit : ℕ → ℕ
hex_digit n = if nat_lt n 10 then 48 + n else 97 + (n - 10)

-- a byte of a text: the quote, the backslash and the controls are escaped, and nothing else is
abbrev pub escaped : ℕ → List ℕ
escaped b =
    if b == 34 then codes "\\\"" else (if b == 92 then codes "\\\\"
    else (if b == 8 then codes "\\b" else (if b == 12 then codes "\\f"
    else (if b == 10 then codes "\\n"
    else (if b == 13 then codes "\\r" else (if b == 9 then codes "\\t"
    else (if nat_lt b 32 then codes "\\u00"
    ++ hex_digit (b / 16) ∷ hex_digit (b % 16) ∷ []
    else b ∷ [])))))))

-- a text between quotes
abbrev pub json_text : List ℕ → List ℕ
json_text text = 34 ∷ flat_map escaped text ++ 34 ∷ []

-- parts in order, the first behind what parts it from the one before, each other behind a comma
abbrev pub joined : List ℕ → List (List ℕ) → List ℕ
joined parted [] = []
joined parted (x ∷ xs) = parted ++ x ++ joined (codes ",") xs

-- a member, by its key and the JSON of its value
abbrev pub member_json : List ℕ × List ℕ → List ℕ
member_json p = json_text p.0 ++ 58 ∷ p.1

module _ {S : Type 0} (answer : S → ScalarAnswer) where
  abbrev pub json_text_or_null : Option (List ℕ) → List ℕ
  json_text_or_null (Some text) = json_text text
  json_text_or_null None = codes "null"

  abbrev pub bool_or : Option Bool → List ℕ → List ℕ
  bool_or (Some true) other = codes "true"
  bool_or (Some false) other = codes "false"
  bool_or None other = other

  abbrev pub int_or : Option ℤ → List ℕ → List ℕ
  int_or (Some n) other = signed_decimal n
  int_or None other = other

  -- a scalar is asked for an integer, then for a boolean, then for a text
  abbrev pub scalar_json : S → List ℕ
  scalar_json s =
      int_or (as_int (answer s))
      (bool_or (as_bool (answer s)) (json_text_or_null (as_text (answer s))))

  -- one layer, the JSON of whose parts stands
  abbrev pub json_layer : Value-F S (List ℕ) (List ℕ) → List ℕ
  json_layer Value-F.Null = codes "null"
  json_layer (Value-F.Scalar s) = scalar_json s
  json_layer (Value-F.List items) = 91 ∷ joined [] items ++ 93 ∷ []
  json_layer (Value-F.Object object) = object

  abbrev pub fields_layer : Object-F S (List ℕ) (List ℕ) → List ℕ
  fields_layer o = 123 ∷ joined [] (map member_json o.fields) ++ 125 ∷ []

  -- the JSON of a value: its objects' members in order, and no spaces
  abbrev pub json : Value S → List ℕ
  json = fold-Value S (List ℕ) (List ℕ) json_layer fields_layer

  abbrev pub object_json : Object S → List ℕ
  object_json = fold-Object S (List ℕ) (List ℕ) json_layer fields_layer

  -- the JSON of one step of a value: that of its steps, one after the other, is the JSON of the
  -- value
  abbrev pub step_json : Step S → List ℕ
  step_json Null = codes "null"
  step_json (Scalar s) = scalar_json s
  step_json ListOpens = codes "["
  step_json ListCloses = codes "]"
  step_json ObjectOpens = codes "{"
  step_json ObjectCloses = codes "}"
  step_json (Key key) = json_text key ++ codes ":"
  step_json Gap = codes ","
