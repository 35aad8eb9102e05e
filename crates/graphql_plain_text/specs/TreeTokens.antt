-- The tokens of plain operations and their sets, with those of values and types as a text has them
-- (GraphQL October 2021, 2.3 Operations to 2.12 Directives).
use Rattle.std.specs.Prelude.{Bool, true, false, List, [], ◌∷◌, ◌++◌, Option, Some, None, codes}
use Rattle.std.specs.List.{flat_map}
use Rattle.graphql_names.specs.Names.{Bytes}
use Rattle.graphql_text.specs.declared.position.Span.{Span}
use Rattle.graphql_text.specs.declared.token.Token.{Token}
use Rattle.graphql_text.specs.declared.token.Token.TheVariants as t
use Rattle.graphql_values.specs.InputValues.{Placed}
use Rattle.graphql_tree.specs.Arguments.{Argument}
use Rattle.graphql_tree.specs.Variables.{Variable}
use Rattle.graphql_tree.specs.declared.document.OperationType.{OperationType}
use Rattle.graphql_tree.specs.declared.document.OperationType.TheVariants as operation
use Rattle.graphql_written_out.specs.Trees.{Directives, Head, Tree, none, field, inline, is_empty}
use Rattle.graphql_plain_tree.specs.PlainOperations.{PlainOperation}

-- the tokens of each, one behind another, between parentheses; none where nothing is listed
abbrev pub in_parentheses : {A : Type 0} → (A → List Token) → List A → List Token
in_parentheses f [] = []
in_parentheses f (x ∷ xs) = t.ParenOpen ∷ (flat_map f (x ∷ xs) ++ t.ParenClose ∷ [])

-- tokens in braces
abbrev pub in_braces : List Token → List Token
in_braces tokens = t.CurlyOpen ∷ (tokens ++ t.CurlyClose ∷ [])

-- none where it is true
abbrev pub in_braces_unless : Bool → List Token → List Token
in_braces_unless true tokens = []
in_braces_unless false tokens = in_braces tokens

-- the key as an alias, if it is one, and the name (2.7 Field Alias)
abbrev pub name_tokens : Bool → Bytes → Bytes → List Token
name_tokens true key name = t.Name key ∷ t.Colon ∷ t.Name name ∷ []
name_tokens false key name = t.Name name ∷ []

-- the type to which an inline fragment applies, if it names one (2.8.2 Inline Fragments)
abbrev pub condition_tokens : Option Bytes → List Token
condition_tokens None = []
condition_tokens (Some on) = t.Name (codes "on") ∷ t.Name on ∷ []

-- `@skip(if: true)` (3.13.1 @skip)
abbrev pub skip_tokens : List Token
skip_tokens =
    t.At ∷ t.Name (codes "skip")
    ∷ t.ParenOpen ∷ t.Name (codes "if") ∷ t.Colon ∷ t.Name (codes "true") ∷ t.ParenClose ∷ []

-- in a plain set directives are those of a stand-in
abbrev pub directive_tokens : {S : Type 0} → Directives S → List Token
directive_tokens [] = []
directive_tokens (d ∷ ds) = skip_tokens

-- an inline fragment, given the tokens of its set (2.8.2 Inline Fragments)
abbrev pub inline_tokens : {S : Type 0} → Option Bytes → Directives S → List Token → List Token
inline_tokens on directives set =
    t.Ellipsis ∷ (condition_tokens on ++ (directive_tokens directives ++ set))

-- which operation it is (2.3 Operations)
abbrev pub keyword : OperationType → Bytes
keyword operation.Query = codes "query"
keyword operation.Mutation = codes "mutation"
keyword operation.Subscription = codes "subscription"

-- the operation's name, if it has one
abbrev pub name_token : Option Bytes → List Token
name_token None = []
name_token (Some name) = t.Name name ∷ []

-- a variable's default value, if it has one (2.10 Variables)
-- `spelled`: the tokens that a text has within a span
abbrev pub default_tokens : {A : Type 0} → (Span → List Token) → Option (Placed A) → List Token
default_tokens spelled None = []
default_tokens spelled (Some x) = t.Equals ∷ spelled x.span

-- `spelled`: the tokens that a text has within a span
module _ {S : Type 0} (spelled : Span → List Token) where
  -- 2.6 Arguments
  abbrev pub argument_tokens : Argument S → List Token
  argument_tokens a = t.Name a.0.item ∷ t.Colon ∷ spelled a.1.span

  -- a field, given the tokens of its set (2.5 Fields)
  abbrev pub field_tokens : Head S → Directives S → List Token → List Token
  field_tokens head directives set =
      name_tokens head.is_aliased head.key head.name
      ++ (in_parentheses argument_tokens head.arguments ++ (directive_tokens directives ++ set))

  -- the selections of a set; a field has a set where one is not empty (2.4 Selection Sets)
  abbrev pub selection_tokens : Tree S → List Token
  selection_tokens none = []
  selection_tokens (field head directives below rest) =
      field_tokens head directives (in_braces_unless (is_empty below) (selection_tokens below))
      ++ selection_tokens rest
  selection_tokens (inline on directives below rest) =
      inline_tokens on directives (in_braces (selection_tokens below)) ++ selection_tokens rest

  -- 2.10 Variables
  abbrev pub variable_tokens : Variable S → List Token
  variable_tokens v =
      t.Dollar ∷ t.Name v.0.item ∷ t.Colon
      ∷ (spelled v.1.var_type.span ++ default_tokens spelled v.1.default_value)

  -- the keyword, the name, the variables and the set (2.3 Operations)
  abbrev pub operation_tokens : PlainOperation S → List Token
  operation_tokens p =
      t.Name (keyword p.operation_type)
      ∷ (name_token p.name
      ++ (in_parentheses variable_tokens p.variables ++ in_braces (selection_tokens p.set)))
