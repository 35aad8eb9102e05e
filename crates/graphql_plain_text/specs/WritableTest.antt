-- The test of whether an input value is writable.
use Rattle.std.specs.Prelude.{ℕ, ℤ, Bool, true, false, not, ◌&&◌, ◌||◌, ◌==◌, nat_le, pos, negsuc}
use Rattle.std.specs.Prelude.{List, [], ◌∷◌, codes}
use Rattle.std.specs.Char.{is_ascii_alphabetic}
use Rattle.std.specs.List.{list_all}
use Rattle.std.specs.Str.{chars, bytes_eq, is_utf8}
use Rattle.graphql_text.specs.Grammar.{is_string_character}
use Rattle.graphql_text.specs.Characters.{continues_name}
use Rattle.graphql_scalars.specs.declared.default_scalar.DefaultScalarValue.{DefaultScalarValue}
use Rattle.graphql_scalars.specs.declared.default_scalar.DefaultScalarValue.TheVariants as scalar
use Rattle.graphql_values.specs.declared.input_value.InputValue.{fold-InputValue}
use Rattle.graphql_values.specs.declared.input_value.InputValue.TheOpen.{InputValue-F}
use Rattle.graphql_plain_text.specs.Writable.{Value}

abbrev pub name_test : List ℕ → Bool
name_test [] = false
name_test (c ∷ cs) = (c == 95 || is_ascii_alphabetic c) && list_all continues_name cs

abbrev pub enum_test : List ℕ → Bool
enum_test name = name_test name && not (bytes_eq name (codes "true"))
    && not (bytes_eq name (codes "false")) && not (bytes_eq name (codes "null"))

abbrev pub plain_test : List ℕ → Bool
plain_test text = is_utf8 text && list_all is_string_character (chars text)

-- from -2147483648 to 2147483647
abbrev pub fits_test : ℤ → Bool
fits_test (pos n) = nat_le n 2147483647
fits_test (negsuc n) = nat_le n 2147483647

abbrev pub scalar_test : DefaultScalarValue → Bool
scalar_test (scalar.Int n) = fits_test n
scalar_test (scalar.String text) = plain_test text
scalar_test (scalar.Boolean b) = true

abbrev pub test_layer : Bool → InputValue-F DefaultScalarValue Bool → Bool
test_layer is_const InputValue-F.Null = true
test_layer is_const (InputValue-F.Scalar s) = scalar_test s
test_layer is_const (InputValue-F.Enum name) = enum_test name
test_layer is_const (InputValue-F.Variable name) = not is_const && name_test name
test_layer is_const (InputValue-F.List items) = list_all (λ x. x.item) items
test_layer is_const (InputValue-F.Object pairs) =
    list_all (λ p. name_test p.0.item && p.1.item) pairs

abbrev pub writable : Bool → Value → Bool
writable is_const = fold-InputValue DefaultScalarValue Bool (test_layer is_const)
