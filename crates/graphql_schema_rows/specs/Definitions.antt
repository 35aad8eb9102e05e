-- Definitions, production by production (GraphQL October 2021, 3.2 Descriptions, 3.6 Objects, 3.6.1
-- Field Arguments, 3.9 Enums, 3.10 Input Objects). No directive stands behind an argument: the
-- standard has none for it (3.13 Directives).
use Rattle.std.specs.Prelude.{Bool, true, List, Result}
use Rattle.graphql_text.specs.declared.token.ScalarToken.{ScalarToken}
use Rattle.graphql_text.specs.declared.token.Token.{Token}
use Rattle.graphql_text.specs.declared.parse_error.ParseError.{ParseError}
use Rattle.graphql_grammar.specs.declared.kind.Kind.TheVariants as k
use Rattle.graphql_grammar.specs.Faults.{Reading}
use Rattle.graphql_grammar.specs.Input.{At, Located}
use Rattle.graphql_grammar.specs.Kinds.{enum_names, only}
use Rattle.graphql_grammar.specs.Relations.{Between, Made, OptionOf, Placed, Rel, SomeOf, Then}
use Rattle.graphql_grammar.specs.Relations.{TokenOf}
use Rattle.graphql_grammar.specs.Steps.{name_of}
use Rattle.graphql_value_syntax.specs.Directives.{DefaultOf, DirectivesOf, NameOf, Sign}
use Rattle.graphql_value_syntax.specs.Types.{TypeOf}
use Rattle.graphql_schema_rows.specs.ReadDefinitions.{Written, argument_definition}
use Rattle.graphql_schema_rows.specs.ReadDefinitions.{field_definition, head_of}
use Rattle.graphql_schema_rows.specs.ReadDefinitions.{value_definition}
use Rattle.graphql_schema_rows.specs.declared.written.ArgumentDefinition.{ArgumentDefinition}
use Rattle.graphql_schema_rows.specs.declared.written.FieldDefinition.{FieldDefinition}
use Rattle.graphql_schema_rows.specs.declared.written.HeadDefinition.{HeadDefinition}
use Rattle.graphql_schema_rows.specs.declared.written.ValueDefinition.{ValueDefinition}

-- a string or a number, as it is written
abbrev pub LiteralOf : List Located → At Token → Type 0
LiteralOf = Placed (TokenOf (only k.Scalar) (λ v. v))

-- Description? : StringValue; which of the literals describe is told by `described` of `Notes`
abbrev pub DescriptionOf : List Located → Written → Type 0
DescriptionOf = OptionOf LiteralOf

-- Description? Name
abbrev pub HeadOf : List Located → HeadDefinition → Type 0
HeadOf = Then DescriptionOf (λ w. Made (λ n. head_of w n) NameOf)

module _ (S : Type 0) (reads : ScalarToken → Result S ParseError) (of_bool : Bool → S) where
  -- InputValueDefinition : Description? Name `:` Type DefaultValue?
  abbrev pub ArgumentOf : List Located → ArgumentDefinition S → Type 0
  ArgumentOf = Then DescriptionOf (λ w. Then NameOf (λ n. Then (Sign k.Colon) (λ u.
      Then TypeOf (λ t. Made (λ d. argument_definition w n t d)
      (OptionOf (DefaultOf S reads of_bool))))))

  -- ArgumentsDefinition : `(` InputValueDefinition+ `)`
  abbrev pub ArgumentsOf : List Located → List (ArgumentDefinition S) → Type 0
  ArgumentsOf = Between (SomeOf ArgumentOf) k.ParenOpen k.ParenClose

  -- FieldDefinition : Description? Name ArgumentsDefinition? `:` Type Directives?
  abbrev pub FieldOf : List Located → FieldDefinition S → Type 0
  FieldOf = Then DescriptionOf (λ w. Then NameOf
      (λ n. Then (OptionOf ArgumentsOf) (λ args. Then (Sign k.Colon) (λ u. Then TypeOf (λ t.
      Made (λ ds. field_definition w n args t ds) (DirectivesOf S reads of_bool true))))))

  -- EnumValueDefinition : Description? EnumValue Directives?
  abbrev pub ValueOf : List Located → ValueDefinition S → Type 0
  ValueOf = Then DescriptionOf (λ w. Then (TokenOf enum_names name_of)
      (λ n. Made (λ ds. value_definition w n ds) (DirectivesOf S reads of_bool true)))

-- which tokens spell which definition, by what scalars mean
module _ (S : Type 0) where
  abbrev pub Heads : Reading S → Rel HeadDefinition
  Heads reading = HeadOf

  module _ (of_bool : Bool → S) where
    abbrev pub Arguments : Reading S → Rel (ArgumentDefinition S)
    Arguments reading = ArgumentOf S reading of_bool

    abbrev pub Fields : Reading S → Rel (FieldDefinition S)
    Fields reading = FieldOf S reading of_bool

    abbrev pub Values : Reading S → Rel (ValueDefinition S)
    Values reading = ValueOf S reading of_bool
