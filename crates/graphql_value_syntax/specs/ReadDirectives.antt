-- How arguments, directives and variables are read (GraphQL October 2021, 2.6 Arguments, 2.12
-- Directives, 2.10 Variables).
use Rattle.std.specs.Prelude.{ℕ, Bool, true, List, [], ◌∷◌, Option, Some, None, Result}
use Rattle.graphql_text.specs.declared.token.ScalarToken.{ScalarToken}
use Rattle.graphql_text.specs.declared.parse_error.ParseError.{ParseError}
use Rattle.graphql_values.specs.declared.input_value.InputValue.{InputValue}
use Rattle.graphql_tree.specs.declared.directive.Arguments.{Arguments}
use Rattle.graphql_tree.specs.declared.directive.Directive.{Directive}
use Rattle.graphql_tree.specs.declared.variable.VariableDefinition.{VariableDefinition}
use Rattle.graphql_tree.specs.declared.variable.VariableDefinitions.{VariableDefinitions}
use Rattle.graphql_grammar.specs.declared.kind.Kind.TheVariants as k
use Rattle.graphql_grammar.specs.Kinds.{only}
use Rattle.graphql_grammar.specs.Input.{At, Parser, ◌>>=◌, ◌>>◌, pure}
use Rattle.graphql_grammar.specs.Steps.{expect, name, located, optional, all, some_between}
use Rattle.graphql_value_syntax.specs.ReadValues.{name_and, value}
use Rattle.graphql_value_syntax.specs.ReadTypes.{type_ref}

-- the name of a variable, placed with its `$`
abbrev pub variable_name : Parser (At (List ℕ))
variable_name = located do
  expect k.Dollar
  name

-- a list, or none where it is empty
abbrev pub some_of : {A : Type 0} → List A → Option (List A)
some_of [] = None
some_of (x ∷ xs) = Some (x ∷ xs)

module _ {S : Type 0} (reads : ScalarToken → Result S ParseError) (of_bool : Bool → S) where
  -- arguments in parentheses, each a name and its value
  unfoldable pub arguments : Bool → Parser (At (Arguments S))
  arguments is_const = located do
    ps ← some_between k.ParenOpen k.ParenClose (name_and (value reads of_bool is_const))
    pure (record { items = ps })

  -- a directive and its arguments, if it has any
  unfoldable pub directive : Bool → Parser (At (Directive S))
  directive is_const = located do
    expect k.At
    n ← located name
    args ← optional (only k.ParenOpen) (arguments is_const)
    pure (record { name = n; arguments = args })

  -- directives, if there are any
  unfoldable pub directives : Bool → Parser (Option (List (At (Directive S))))
  directives is_const = do
    ds ← all (only k.At) (directive is_const) []
    pure (some_of ds)

  abbrev pub VariableWith : Type 0
  VariableWith = At (List ℕ) × VariableDefinition S

  -- a default value stands behind `=`
  abbrev pub default_value : Parser (At (InputValue S))
  default_value = do
    expect k.Equals
    value reads of_bool true

  -- the definition of a variable: its type, and its default if it has one
  unfoldable pub variable_definition : Parser VariableWith
  variable_definition = do
    n ← variable_name
    expect k.Colon
    t ← type_ref
    d ← optional (only k.Equals) default_value
    ds ← directives true
    pure (n, record { var_type = t; default_value = d; directives = ds })

  -- definitions of variables in parentheses
  unfoldable pub variable_definitions : Parser (At (VariableDefinitions S))
  variable_definitions = located do
    ds ← some_between k.ParenOpen k.ParenClose variable_definition
    pure (record { items = ds })
