-- Literals, the types that are asked for where they stand, and what is said of those that do not
-- conform (GraphQL October 2021, 5.6.1 Values of Correct Type).
use Rattle.std.specs.Prelude.{◌≡◌, ◌⊎◌, List, [], ◌∷◌}
use Rattle.graphql_literal_checks.specs.Conforms.{Conforms}
use Rattle.graphql_literal_checks.specs.declared.source.Source.TheVariants.{Literal}
use Rattle.graphql_schema.specs.Scalars.{Scalars}
use Rattle.graphql_schema.specs.declared.meta.MetaType.{MetaType}
use Rattle.graphql_schema.specs.Types.{TypeOf}
use Rattle.graphql_rule_errors.specs.Places.{Places}
use Rattle.graphql_values.specs.InputValues.{Placed}
use Rattle.graphql_values.specs.declared.input_value.InputValue.{InputValue}
use Rattle.graphql_visitors.specs.Rules.{Tell}

-- a literal, and the type that is asked for there
pub record Asked (S : Type 0) : Type 0 where
  pub type_of : TypeOf
  pub literal : Placed (InputValue S)

-- by what scalars mean, and the types of a schema
module _ {S C : Type 0} (scalars : Scalars S C) (types : List (MetaType S C)) where
  abbrev pub LiteralConforms : Asked S → Type 0
  LiteralConforms a = Conforms scalars types Literal a.type_of a.literal.item

  -- no error where a literal conforms, and one at its start where it does not
  abbrev pub LiteralJudged : Asked S → Places → Type 0
  LiteralJudged a told =
      (LiteralConforms a × (told ≡ []))
      ⊎ ((LiteralConforms a → ⊥) × (told ≡ (a.literal.span.start ∷ []) ∷ []))

  -- those of the literals that do not conform, in order
  abbrev pub Misfits : List (Asked S) → Places → Type 0
  Misfits = Tell LiteralJudged
