-- Plain operations whose names are spelt, and whose values and types a text has the tokens of.
use Rattle.std.specs.Prelude.{◌≡◌, ◌⊎◌, Bool, true, false, List, [], ◌∷◌, Option, Some, None}
use Rattle.std.specs.Prelude.{Result}
use Rattle.graphql_names.specs.Names.{Bytes}
use Rattle.graphql_text.specs.declared.position.Span.{Span}
use Rattle.graphql_text.specs.declared.token.Token.{Token}
use Rattle.graphql_text.specs.declared.token.Token.TheVariants as t
use Rattle.graphql_text.specs.declared.token.ScalarToken.{ScalarToken}
use Rattle.graphql_text.specs.declared.parse_error.ParseError.{ParseError}
use Rattle.graphql_values.specs.declared.input_value.InputValue.{InputValue}
use Rattle.graphql_values.specs.InputValues.{Placed, unplaced, unlocated}
use Rattle.graphql_tree.specs.Arguments.{Argument}
use Rattle.graphql_tree.specs.Variables.{Variable}
use Rattle.graphql_tree.specs.Unlocated.{without_place}
use Rattle.graphql_value_syntax.specs.ReadTypes.{TypeRef}
use Rattle.graphql_value_syntax.specs.Types.{TypeOf}
use Rattle.graphql_value_syntax.specs.Values.{ValueOf}
use Rattle.graphql_written_out.specs.Trees.{Directives, Head, Tree, none, field, inline, is_empty}
use Rattle.graphql_plain_tree.specs.PlainOperations.{PlainOperation}
use Rattle.graphql_plain_tree.specs.StandIns.{skip_true}
use Rattle.graphql_plain_text.specs.Again.{Again}
use Rattle.graphql_plain_text.specs.Spelt.{IsSpelt}

-- a name, if there is one
abbrev pub NameIsSpelt : Option Bytes → Type 0
NameIsSpelt None = Unit {0}
NameIsSpelt (Some on) = IsSpelt (t.Name on)

-- the names of arguments
abbrev pub NamesAreSpelt : {S : Type 0} → List (Argument S) → Type 0
NamesAreSpelt [] = Unit {0}
NamesAreSpelt (x ∷ xs) = IsSpelt (t.Name x.0.item) × NamesAreSpelt xs

module _ (S : Type 0) (reads : ScalarToken → Result S ParseError) (of_bool : Bool → S) where
  -- no directives, or those of a stand-in
  abbrev pub IsMarked : Directives S → Type 0
  IsMarked directives = (directives ≡ []) ⊎ (directives ≡ skip_true of_bool)

  -- no set of an inline fragment is empty, and there are no directives but those of stand-ins
  abbrev pub IsShaped : Tree S → Type 0
  IsShaped none = Unit {0}
  IsShaped (field head directives below rest) = IsMarked directives × IsShaped below × IsShaped rest
  IsShaped (inline on directives below rest) =
      IsMarked directives × (is_empty below ≡ false) × IsShaped below × IsShaped rest

  -- `spelled`: the tokens that a text has within a span
  module _ (spelled : Span → List Token) where
    -- those within the value's place spell it wherever they stand
    -- `is_constant`: it holds no variable
    abbrev pub ValueIsSpelled : Bool → Placed (InputValue S) → Type 0
    ValueIsSpelled is_constant x =
        Again (ValueOf S reads of_bool is_constant) (without_place unlocated) (spelled x.span)
        (unplaced (unlocated x.item))

    abbrev pub TypeIsSpelled : Placed TypeRef → Type 0
    TypeIsSpelled x = Again TypeOf (without_place (λ t. t)) (spelled x.span) (unplaced x.item)

    abbrev pub ArgumentsAreSpelled : List (Argument S) → Type 0
    ArgumentsAreSpelled [] = Unit {0}
    ArgumentsAreSpelled (x ∷ xs) = ValueIsSpelled false x.1 × ArgumentsAreSpelled xs

    abbrev pub DefaultIsSpelled : Option (Placed (InputValue S)) → Type 0
    DefaultIsSpelled None = Unit {0}
    DefaultIsSpelled (Some x) = ValueIsSpelled true x

    abbrev pub VariableIsSpelled : Variable S → Type 0
    VariableIsSpelled v =
        TypeIsSpelled v.1.var_type × DefaultIsSpelled v.1.default_value × (v.1.directives ≡ None)

    abbrev pub VariablesAreSpelled : List (Variable S) → Type 0
    VariablesAreSpelled [] = Unit {0}
    VariablesAreSpelled (v ∷ vs) = VariableIsSpelled v × VariablesAreSpelled vs

    -- what is written of a field: its names are spelt, and its arguments are spelled by the tokens
    -- within their places
    pub record HeadIsSpelled (head : Head S) : Type 0 where
      pub key : IsSpelt (t.Name head.key)
      pub name : IsSpelt (t.Name head.name)
      pub names : NamesAreSpelt head.arguments
      pub arguments : ArgumentsAreSpelled head.arguments

    -- each field, and the condition of each inline fragment
    abbrev pub TreeIsSpelled : Tree S → Type 0
    TreeIsSpelled none = Unit {0}
    TreeIsSpelled (field head directives below rest) =
        HeadIsSpelled head × TreeIsSpelled below × TreeIsSpelled rest
    TreeIsSpelled (inline on directives below rest) =
        NameIsSpelt on × TreeIsSpelled below × TreeIsSpelled rest

    -- a plain operation of which all this is so, and whose set is not empty
    pub record IsSpelledOperation (p : PlainOperation S) : Type 0 where
      pub variables : VariablesAreSpelled p.variables
      pub some : is_empty p.set ≡ false
      pub shaped : IsShaped p.set
      pub tree : TreeIsSpelled p.set
