-- How definitions are read (GraphQL October 2021, 3.2 Descriptions, 3.6 Objects, 3.6.1 Field
-- Arguments, 3.9 Enums, 3.10 Input Objects).
use Rattle.std.specs.Prelude.{ℕ, Bool, true, List, Option, Result, option_map}
use Rattle.graphql_text.specs.declared.token.ScalarToken.{ScalarToken}
use Rattle.graphql_text.specs.declared.token.Token.{Token}
use Rattle.graphql_text.specs.declared.parse_error.ParseError.{ParseError}
use Rattle.graphql_values.specs.declared.input_value.InputValue.{InputValue}
use Rattle.graphql_tree.specs.declared.directive.Directive.{Directive}
use Rattle.graphql_grammar.specs.declared.kind.Kind.TheVariants as k
use Rattle.graphql_grammar.specs.Kinds.{enum_names, only}
use Rattle.graphql_grammar.specs.Input.{At, Parser, ◌>>=◌, ◌>>◌, pure}
use Rattle.graphql_grammar.specs.Steps.{expect, finished, located, name, name_in, optional}
use Rattle.graphql_grammar.specs.Steps.{some_between, token}
use Rattle.graphql_value_syntax.specs.ReadDirectives.{default_value, directives}
use Rattle.graphql_value_syntax.specs.ReadTypes.{TypeRef, type_ref}
use Rattle.graphql_schema_rows.specs.declared.written.ArgumentDefinition.{ArgumentDefinition}
use Rattle.graphql_schema_rows.specs.declared.written.FieldDefinition.{FieldDefinition}
use Rattle.graphql_schema_rows.specs.declared.written.HeadDefinition.{HeadDefinition}
use Rattle.graphql_schema_rows.specs.declared.written.ValueDefinition.{ValueDefinition}

-- a description, as it is written
abbrev pub Written : Type 0
Written = Option (At Token)

-- what a definition is made of
module _ {S : Type 0} where
  abbrev pub argument_definition : Written → List ℕ → At TypeRef → Option (At (InputValue S))
      → ArgumentDefinition S
  argument_definition w n t d = record {
    description = w;
    name = n;
    arg_type = t.item;
    default_value = option_map (λ v. v.item) d;
  }

  abbrev pub field_definition : Written → List ℕ → Option (List (ArgumentDefinition S)) → At TypeRef
      → Option (List (At (Directive S))) → FieldDefinition S
  field_definition w n args t ds =
      record { description = w; name = n; arguments = args; field_type = t.item; directives = ds }

  abbrev pub value_definition : Written → List ℕ → Option (List (At (Directive S)))
      → ValueDefinition S
  value_definition w n ds = record { description = w; name = n; directives = ds }

abbrev pub head_of : Written → List ℕ → HeadDefinition
head_of w n = record { description = w; name = n }

-- a string or a number
abbrev pub literal : Parser (At Token)
literal = located (token (only k.Scalar) (λ v. v))

abbrev pub description : Parser Written
description = optional (only k.Scalar) literal

unfoldable pub head : Parser HeadDefinition
head = do
  w ← description
  n ← name
  pure (head_of w n)

module _ {S : Type 0} (reads : ScalarToken → Result S ParseError) (of_bool : Bool → S) where
  unfoldable pub argument : Parser (ArgumentDefinition S)
  argument = do
    w ← description
    n ← name
    expect k.Colon
    t ← type_ref
    d ← optional (only k.Equals) (default_value reads of_bool)
    pure (argument_definition w n t d)

  abbrev pub arguments : Parser (List (ArgumentDefinition S))
  arguments = some_between k.ParenOpen k.ParenClose argument

  unfoldable pub field : Parser (FieldDefinition S)
  field = do
    w ← description
    n ← name
    args ← optional (only k.ParenOpen) arguments
    expect k.Colon
    t ← type_ref
    ds ← directives reads of_bool true
    pure (field_definition w n args t ds)

  unfoldable pub enum_value : Parser (ValueDefinition S)
  enum_value = do
    w ← description
    n ← name_in enum_names
    ds ← directives reads of_bool true
    pure (value_definition w n ds)

-- it, and then the end of the text
abbrev pub whole : {A : Type 0} → Parser A → Parser A
whole p = p >>= (λ x. finished x)
