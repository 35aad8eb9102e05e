-- Arguments, directives and variables, production by production (GraphQL October 2021, 2.6
-- Arguments, 2.12 Directives, 2.10 Variables).
use Rattle.std.specs.Prelude.{ℕ, Bool, true, List, Option, Result}
use Rattle.graphql_text.specs.declared.token.ScalarToken.{ScalarToken}
use Rattle.graphql_text.specs.declared.parse_error.ParseError.{ParseError}
use Rattle.graphql_values.specs.declared.input_value.InputValue.{InputValue}
use Rattle.graphql_tree.specs.declared.directive.Arguments.{Arguments}
use Rattle.graphql_tree.specs.declared.directive.Directive.{Directive}
use Rattle.graphql_tree.specs.declared.variable.VariableDefinition.{VariableDefinition}
use Rattle.graphql_tree.specs.declared.variable.VariableDefinitions.{VariableDefinitions}
use Rattle.graphql_grammar.specs.declared.kind.Kind.{Kind}
use Rattle.graphql_grammar.specs.declared.kind.Kind.TheVariants as k
use Rattle.graphql_grammar.specs.Kinds.{only, names}
use Rattle.graphql_grammar.specs.Input.{At, Located}
use Rattle.graphql_grammar.specs.Steps.{name_of}
use Rattle.graphql_grammar.specs.Relations.{TokenOf, Then, Made, Placed, OptionOf, AllOf, SomeOf}
use Rattle.graphql_grammar.specs.Relations.{Between}
use Rattle.graphql_value_syntax.specs.ReadDirectives.{some_of}
use Rattle.graphql_value_syntax.specs.Values.{ValueOf}
use Rattle.graphql_value_syntax.specs.Types.{TypeOf}

-- a token of one kind, which means nothing more
abbrev pub Sign : Kind → List Located → Unit {0} → Type 0
Sign w = TokenOf (only w) (λ v. tt {0})

-- Name
abbrev pub NameOf : List Located → List ℕ → Type 0
NameOf = TokenOf names name_of

-- which tokens spell which name at its place
abbrev pub Named : List Located → At (List ℕ) → Type 0
Named = Placed NameOf

module _ (S : Type 0) (reads : ScalarToken → Result S ParseError) (of_bool : Bool → S) where
  -- Argument : Name `:` Value
  abbrev pub ArgumentOf : Bool → List Located → At (List ℕ) × At (InputValue S) → Type 0
  ArgumentOf is_const = Then Named
      (λ n. Then (Sign k.Colon) (λ u. Made (λ x. (n, x)) (ValueOf S reads of_bool is_const)))

  -- Arguments : `(` Argument+ `)`
  abbrev pub ArgumentsOf : Bool → List Located → At (Arguments S) → Type 0
  ArgumentsOf is_const = Placed (Made (λ ps. record { items = ps })
      (Between (SomeOf (ArgumentOf is_const)) k.ParenOpen k.ParenClose))

  -- Directive : `@` Name Arguments?
  abbrev pub DirectiveOf : Bool → List Located → At (Directive S) → Type 0
  DirectiveOf is_const = Placed (Then (Sign k.At) (λ u. Then Named (λ n.
      Made (λ args. record { name = n; arguments = args }) (OptionOf (ArgumentsOf is_const)))))

  -- Directives : Directive+, or none
  abbrev pub DirectivesOf : Bool → List Located → Option (List (At (Directive S))) → Type 0
  DirectivesOf is_const = Made some_of (AllOf (DirectiveOf is_const))

  -- DefaultValue : `=` Value, a constant
  abbrev pub DefaultOf : List Located → At (InputValue S) → Type 0
  DefaultOf = Then (Sign k.Equals) (λ u. ValueOf S reads of_bool true)

  -- VariableDefinition : Variable `:` Type DefaultValue? Directives?, the variable with its `$` in
  -- its place
  abbrev pub VariableDefinitionOf : List Located → At (List ℕ) × VariableDefinition S → Type 0
  VariableDefinitionOf = Then (Placed (Then (Sign k.Dollar) (λ u. NameOf)))
      (λ n. Then (Sign k.Colon) (λ u. Then TypeOf (λ t. Then (OptionOf DefaultOf) (λ d.
      Made (λ ds. (n, record { var_type = t; default_value = d; directives = ds }))
      (DirectivesOf true)))))

  -- VariableDefinitions : `(` VariableDefinition+ `)`
  abbrev pub VariableDefinitionsOf : List Located → At (VariableDefinitions S) → Type 0
  VariableDefinitionsOf = Placed (Made (λ ds. record { items = ds })
      (Between (SomeOf VariableDefinitionOf) k.ParenOpen k.ParenClose))
