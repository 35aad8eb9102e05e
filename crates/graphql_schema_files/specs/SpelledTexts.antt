-- What texts spell as a whole: type references and constant literals (GraphQL October 2021, 2.9
-- Input Values, 2.11 Type References).
use Rattle.std.specs.Prelude.{◌≡◌, true, Option, Some, None}
use Rattle.std.specs.Str.{chars}
use Rattle.graphql_names.specs.Names.{Bytes}
use Rattle.graphql_scalars.specs.DefaultScalar.{reads}
use Rattle.graphql_scalars.specs.declared.default_scalar.DefaultScalarValue.{DefaultScalarValue}
use Rattle.graphql_scalars.specs.declared.default_scalar.DefaultScalarValue.TheVariants as scalar
use Rattle.graphql_values.specs.declared.input_value.InputValue.{InputValue}
use Rattle.graphql_grammar.specs.Cursor.{IsStart}
use Rattle.graphql_grammar.specs.Input.{At, Input}
use Rattle.graphql_grammar.specs.Relations.{Rel}
use Rattle.graphql_value_syntax.specs.ReadTypes.{TypeRef}
use Rattle.graphql_value_syntax.specs.Types.{TypeOf}
use Rattle.graphql_value_syntax.specs.Values.{ValueOf}

-- all the tokens of the text, which are ahead at its start, spell this
pub record IsSpelled {A : Type 0} (Tree : Rel (At A)) (text : Bytes) (x : A) : Type 0 where
  pub start : Input
  pub starts : IsStart (chars text) start
  pub tree : At A
  pub spells : Tree start.ahead tree
  pub is : x ≡ tree.item

-- a value of the default scalars
abbrev pub Value : Type 0
Value = InputValue DefaultScalarValue

-- the text is a type reference (2.11)
abbrev pub IsType : Bytes → TypeRef → Type 0
IsType = IsSpelled TypeOf

-- the text is a value in which no variable stands (2.9)
abbrev pub IsLiteral : Bytes → Value → Type 0
IsLiteral = IsSpelled (ValueOf DefaultScalarValue reads scalar.Boolean true)

-- the text is a reference to some type
abbrev pub HasType : Bytes → Type 0
HasType text = (t : TypeRef) × IsType text t

abbrev pub HasLiteral : Bytes → Type 0
HasLiteral text = (v : Value) × IsLiteral text v

-- what something means, or nothing where it is not sound
abbrev pub FindsMeant : {A B : Type 0} → (A → B → Type 0) → (A → Type 0) → A → Option B → Type 0
FindsMeant Means IsSound x (Some y) = Means x y
FindsMeant Means IsSound x None = IsSound x → ⊥
