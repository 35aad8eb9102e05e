-- Which values of a request's variables an operation accepts (GraphQL October 2021, 6.1.2 Coercing
-- Variable Values).
use Rattle.std.specs.Prelude.{◌≡◌, ◌⊎◌, ◌||◌, not, true, Bool, List, [], ◌∷◌, Option, Some, None}
use Rattle.std.specs.Prelude.{IsPermutation}
use Rattle.std.specs.List.{Contains}
use Rattle.std.specs.Option.{IsSome, is_some}
use Rattle.graphql_written_out.specs.FinalValues.{variable_name}
use Rattle.graphql_literal_checks.specs.Conforms.{Conforms}
use Rattle.graphql_schema.specs.Scalars.{Scalars}
use Rattle.graphql_schema.specs.Types.{refuses_null, TypeOf}
use Rattle.graphql_literal_checks.specs.declared.source.Source.TheVariants.{Sent}
use Rattle.graphql_schema.specs.declared.meta.MetaType.{MetaType}
use Rattle.graphql_names.specs.Names.{Bytes}
use Rattle.graphql_rule_errors.specs.Places.{Places}
use Rattle.graphql_schema.specs.Lookups.{type_named}
use Rattle.graphql_text.specs.declared.position.SourcePosition.{SourcePosition}
use Rattle.graphql_tree.specs.Variables.{Variable}
use Rattle.graphql_values.specs.declared.input_value.InputValue.{InputValue}

module _ {S : Type 0} where
  -- where the definition starts, at the `$`
  abbrev pub variable_place : Variable S → SourcePosition
  variable_place v = v.0.span.start

  -- with its wraps
  abbrev pub variable_type : Variable S → TypeOf
  variable_type v = v.1.var_type.item

  -- the variable is nullable, or has a default
  abbrev pub may_be_absent : Variable S → Bool
  may_be_absent v = not (refuses_null (variable_type v)) || is_some v.1.default_value

-- the schema has the type of the variable
abbrev pub IsKnown : {S C : Type 0} → List (MetaType S C) → Variable S → Type 0
IsKnown types v = IsSome (type_named types (variable_type v).name)

-- by what scalars mean, and the types of a schema
module _ {S C : Type 0} (scalars : Scalars S C) (types : List (MetaType S C)) where
  -- a value that is given conforms, a null among them; an absent one may be absent
  abbrev pub FitsVariable : Variable S → Option (InputValue S) → Type 0
  FitsVariable v (Some value) = Conforms scalars types Sent (variable_type v) value
  FitsVariable v None = may_be_absent v ≡ true

  -- by the value that the request gives for each name; nothing is asked at a type that the schema
  -- has not
  module _ (given : Bytes → Option (InputValue S)) where
    abbrev pub IsAccepted : Variable S → Type 0
    IsAccepted v = IsKnown types v → FitsVariable v (given (variable_name v))

    -- each of the definitions accepts what is given for its name
    abbrev pub AreAccepted : List (Variable S) → Type 0
    AreAccepted definitions = (v : Variable S) → Contains definitions v → IsAccepted v

    -- an error at the start of each definition that does not accept what is given for its name, in
    -- order, and no other
    abbrev pub Refusals : List (Variable S) → Places → Type 0
    Refusals [] told = told ≡ []
    Refusals (v ∷ vs) told = (IsAccepted v × Refusals vs told) ⊎ ((IsAccepted v → ⊥)
        × ((rest : Places) × (told ≡ (variable_place v ∷ []) ∷ rest) × Refusals vs rest))

    -- the same errors, in whatever order
    abbrev pub ValuesTold : List (Variable S) → Places → Type 0
    ValuesTold definitions told =
        (in_text : Places) × Refusals definitions in_text × IsPermutation in_text told
