-- The plain text of small queries: of a fragment, of sets of which all are left out, of a mutation
-- with a variable, of a string with an escape, of fragments that spread twice.
use Rattle.std.proofs.Common.{◌≡◌, refl, ◌∙◌, ap, ℕ, true, false, not, ◌&&◌, ◌||◌, List, [], ◌∷◌, ◌++◌, Option, Some, None, cond}
use Rattle.std.specs.Prelude.{codes}
use Rattle.graphql_names.specs.Names.{Bytes}
use Rattle.graphql_scalars.specs.ScalarAnswers.{boolean, text}
use Rattle.graphql_text.specs.declared.position.SourcePosition.{SourcePosition}
use Rattle.graphql_text.specs.declared.position.Span.{Span}
use Rattle.graphql_text.specs.declared.token.Token.{Token}
use Rattle.graphql_text.specs.declared.token.Token.TheVariants as t
use Rattle.graphql_text.specs.declared.token.ScalarToken.TheVariants as scalar
use Rattle.graphql_values.specs.InputValues.{Placed, unplaced}
use Rattle.graphql_values.specs.Variables.{variables_layer}
use Rattle.graphql_values.specs.declared.input_value.InputValue.{InputValue}
use Rattle.graphql_values.specs.declared.input_value.InputValue.TheVariants as value
use Rattle.graphql_values.proofs.InputValueEquations.{fold_scalar, fold_variable}
use Rattle.graphql_grammar.specs.Input.{Located}
use Rattle.graphql_tree.specs.Arguments.{Argument}
use Rattle.graphql_tree.specs.Variables.{Variable}
use Rattle.graphql_tree.specs.declared.document.OperationType.TheVariants as operation
use Rattle.graphql_tree.specs.declared.variable.VariableDefinition.{VariableDefinition}
use Rattle.graphql_value_syntax.specs.ReadTypes.{TypeRef}
use Rattle.graphql_written_out.specs.Conditions.{is_true, leaves_out}
use Rattle.graphql_written_out.specs.Trees.{Directives, Tree, none, field, inline}
use Rattle.graphql_plain_tree.specs.Plain.{plain_set}
use Rattle.graphql_plain_tree.specs.PlainOperations.{definitions_used, operation_with, plain_by, plain_operation, variables_used}
use Rattle.graphql_plain_tree.proofs.Rows.{Scalar, itself, Values, given_x, truth_value, field_named, hero, id_field, name_field, directive, include_x, drops, stand_in, name_if_x, name_of_false, name_of_null, name_of_true, typename_and, skip_at, id_stands_in, fragment_stands_in, fragment, spreading_query, spreading_query_is_plain, of_a}
use Rattle.graphql_plain_tree.proofs.StandInLaws.{truth-of_literal}
use Rattle.graphql_plain_text.specs.PlainTexts.{plain_text}

-- ---- no values: whatever tokens the source has

module _ (tokens : List Located) where
  -- `{ hero { ...F friend { name } } }`, where F is `on Human { id friend { id } }`
  pub of_a_fragment : (given : Values)
      → plain_text tokens (plain_operation itself boolean given (fragment ∷ []) spreading_query)
      ≡ codes "query { hero { ... on Human { id friend { id } } friend { name } } }"
  of_a_fragment given = ap (plain_text tokens) (spreading_query_is_plain given)

  -- a query of this set, plain
  abbrev query_text : Tree Scalar → Bytes
  query_text set = plain_text tokens (operation_with operation.Query None [] set)

  -- `query Q($x: ..) SET`
  module _ (of_x : VariableDefinition Scalar) where
    abbrev q_text : Tree Scalar → Bytes
    q_text set =
        plain_text tokens (operation_with operation.Query (Some (codes "Q"))
        ((unplaced (codes "x"), of_x) ∷ []) set)

    -- `query Q($x: ..) { hero { name @include(if: $x) } }`, of `$x` false, null and true
    pub of_false : q_text (plain_by itself boolean (given_x (Some (truth_value false))) name_if_x)
        ≡ codes "query Q { hero { name @ skip ( if : true ) } }"
    of_false = ap q_text name_of_false

    pub of_null : q_text (plain_by itself boolean (given_x (Some value.Null)) name_if_x) ≡ codes
        "query Q { hero { name @ skip ( if : true ) } }"
    of_null = ap q_text name_of_null

    pub of_true : q_text (plain_by itself boolean (given_x (Some (truth_value true))) name_if_x)
        ≡ codes "query Q { hero { name } }"
    of_true = ap q_text name_of_true

  -- `{ hero { __typename: name ... on Human { id @skip(if: true) } } }`
  pub of_an_alias : (given : Values) (span : Span)
      → query_text (plain_by itself boolean given (hero (typename_and (skip_at span))))
      ≡ codes "query { hero { __typename : name ... on Human { id @ skip ( if : true ) } } }"
  of_an_alias given span = ap query_text (id_stands_in given span)

  -- `{ hero { ...F @skip(if: true) } }`, where F is `on Human { id }`
  pub of_a_spread_left_out : (given : Values) (span : Span)
      → query_text (plain_by itself boolean given (hero
      (inline (Some (codes "Human")) (skip_at span) (id_field [] none) none)))
      ≡ codes "query { hero { ... on Human @ skip ( if : true ) { id } } }"
  of_a_spread_left_out given span = ap query_text (fragment_stands_in given span)

  -- `@include(if: true)` keeps, and so does a directive that is neither `skip` nor `include`
  include_keeps : (given : Values)
      → drops given (directive (codes "include") (truth_value true)) ≡ false
  unfolding leaves_out
  include_keeps given =
      ap (λ o. not (is_true o) || false) (truth-of_literal itself boolean (λ b. refl) given true)

  tag_keeps : (given : Values) → drops given (directive (codes "tag") (truth_value true)) ≡ false
  unfolding leaves_out
  tag_keeps given = refl

  kept : (given : Values) (on : Option Bytes) (ds : Directives Scalar) → drops given ds ≡ false
      → plain_by itself boolean given (hero (inline on ds (id_field [] none) none)) ≡ hero
      (inline on [] (id_field [] none) none)
  kept given on ds stays =
      (λ i. hero (plain_set (drops given) stand_in (stays i && true)
      (inline on ds (id_field [] none) none)))
      ∙ (λ i. hero (cond (stays i) none (inline on [] (id_field [] none) none)))

  -- `{ hero { ... @include(if: true) { id } } }`
  pub of_no_condition : (given : Values)
      → query_text (plain_by itself boolean given (hero
      (inline None (directive (codes "include") (truth_value true)) (id_field [] none) none)))
      ≡ codes "query { hero { ... { id } } }"
  of_no_condition given =
      ap query_text (kept given None (directive (codes "include") (truth_value true))
      (include_keeps given))

  -- `{ hero { ...F @tag(if: true) } }`, where F is `on Human { id }`
  pub of_another_directive : (given : Values)
      → query_text (plain_by itself boolean given (hero
      (inline (Some (codes "Human")) (directive (codes "tag") (truth_value true)) (id_field [] none)
      none)))
      ≡ codes "query { hero { ... on Human { id } } }"
  of_another_directive given =
      ap query_text (kept given (Some (codes "Human")) (directive (codes "tag") (truth_value true))
      (tag_keeps given))

  -- `{ hero { ...A ...A } }`, where A spreads twice B, and B is `on Human { id }`
  pub of_spreads_twice : (given : Values)
      → query_text (plain_by itself boolean given (hero (of_a (of_a none))))
      ≡ codes "query { hero { ... on Human { ... on Human { id } ... on Human { id } } "
      ++ codes "... on Human { ... on Human { id } ... on Human { id } } } }"
  of_spreads_twice given = refl

-- ---- values: in the spelling of the source

-- the place at an index of a text of one line
abbrev pub at : ℕ → SourcePosition
at n = record { index = n; line = 0; column = n }

abbrev pub from_to : ℕ → ℕ → Span
from_to m n = record { start = at m; end = at n }

abbrev pub put : ℕ → ℕ → Token → Located
put m n token = record { item = token; span = from_to m n }

-- the tokens of
-- `mutation M($n: String!, $x: Boolean!) { rename(id: "h2", name: $n) @include(if: $x) { id } }`
abbrev rename_tokens : List Located
rename_tokens =
    put 0 8 (t.Name (codes "mutation")) ∷ put 9 10 (t.Name (codes "M")) ∷ put 10 11 t.ParenOpen
    ∷ put 11 12 t.Dollar ∷ put 12 13 (t.Name (codes "n")) ∷ put 13 14 t.Colon
    ∷ put 15 21 (t.Name (codes "String")) ∷ put 21 22 t.ExclamationMark
    ∷ put 24 25 t.Dollar ∷ put 25 26 (t.Name (codes "x")) ∷ put 26 27 t.Colon
    ∷ put 28 35 (t.Name (codes "Boolean")) ∷ put 35 36 t.ExclamationMark ∷ put 36 37 t.ParenClose
    ∷ put 38 39 t.CurlyOpen ∷ put 40 46 (t.Name (codes "rename")) ∷ put 46 47 t.ParenOpen
    ∷ put 47 49 (t.Name (codes "id")) ∷ put 49 50 t.Colon ∷ put 51 55
    (t.Scalar (scalar.String (codes "h2")))
    ∷ put 57 61 (t.Name (codes "name")) ∷ put 61 62 t.Colon ∷ put 63 64 t.Dollar ∷ put 64 65
    (t.Name (codes "n"))
    ∷ put 65 66 t.ParenClose ∷ put 67 68 t.At ∷ put 68 75 (t.Name (codes "include")) ∷ put 75 76
    t.ParenOpen
    ∷ put 76 78 (t.Name (codes "if")) ∷ put 78 79 t.Colon ∷ put 80 81 t.Dollar ∷ put 81 82
    (t.Name (codes "x"))
    ∷ put 82 83 t.ParenClose ∷ put 84 85 t.CurlyOpen ∷ put 86 88 (t.Name (codes "id")) ∷ put 89 90
    t.CurlyClose
    ∷ put 91 92 t.CurlyClose ∷ []

-- its values at their places
abbrev valued : ℕ → ℕ → InputValue Scalar → Placed (InputValue Scalar)
valued m n x = record { item = x; span = from_to m n }

abbrev rename_arguments : List (Argument Scalar)
rename_arguments =
    (unplaced (codes "id"), valued 51 55 (value.Scalar (text (codes "h2"))))
    ∷ (unplaced (codes "name"), valued 63 65 (value.Variable (codes "n"))) ∷ []

abbrev rename : Directives Scalar → Tree Scalar
rename directives =
    field (field_named (codes "rename") rename_arguments true) directives (id_field [] none) none

-- what its variables are, whatever types stand there
abbrev n_of : TypeRef → Variable Scalar
n_of type = (
  unplaced (codes "n"),
  record {
    var_type = record { item = type; span = from_to 15 22 };
    default_value = None;
    directives = None;
  },
)

abbrev x_of : TypeRef → Variable Scalar
x_of type = (
  unplaced (codes "x"),
  record {
    var_type = record { item = type; span = from_to 28 36 };
    default_value = None;
    directives = None;
  },
)

n_is_used : variables_used (rename stand_in) ≡ codes "n" ∷ []
n_is_used =
    let given_h2 = fold_scalar (variables_layer {S = Scalar}) (text (codes "h2")) in
    let given_n = fold_variable (variables_layer {S = Scalar}) (codes "n") in
    λ i. (given_h2 i ++ (given_n i ++ [])) ++ []

-- where `$x` leaves out, it is no longer used
pub of_a_variable : (given : Values) → drops given include_x ≡ true → (of_n of_x : TypeRef)
    → plain_text rename_tokens (operation_with operation.Mutation (Some (codes "M"))
    (n_of of_n ∷ x_of of_x ∷ []) (plain_by itself boolean given (rename include_x)))
    ≡ codes "mutation M ( $ n : String ! ) "
    ++ codes "{ rename ( id : \"h2\" name : $ n ) @ skip ( if : true ) { id } }"
of_a_variable given out of_n of_x =
    ap (λ set. plain_text rename_tokens (operation_with operation.Mutation (Some (codes "M"))
    (n_of of_n ∷ x_of of_x ∷ []) set))
    (λ i. plain_set (drops given) stand_in (out i && true) (rename include_x))
    ∙ ap (λ names. plain_text rename_tokens (record {
      operation_type = operation.Mutation;
      name = Some (codes "M");
      variables = definitions_used names (n_of of_n ∷ x_of of_x ∷ []);
      set = rename stand_in;
    })) n_is_used

-- the tokens of `mutation { rename(id: "h1", name: "a\"b") { name } }`
abbrev escape_tokens : List Located
escape_tokens =
    put 0 8 (t.Name (codes "mutation")) ∷ put 9 10 t.CurlyOpen ∷ put 11 17 (t.Name (codes "rename"))
    ∷ put 17 18 t.ParenOpen
    ∷ put 18 20 (t.Name (codes "id")) ∷ put 20 21 t.Colon ∷ put 22 26
    (t.Scalar (scalar.String (codes "h1")))
    ∷ put 28 32 (t.Name (codes "name")) ∷ put 32 33 t.Colon ∷ put 34 40
    (t.Scalar (scalar.String (codes "a\\\"b")))
    ∷ put 40 41 t.ParenClose ∷ put 42 43 t.CurlyOpen ∷ put 44 48 (t.Name (codes "name")) ∷ put 49 50
    t.CurlyClose
    ∷ put 51 52 t.CurlyClose ∷ []

abbrev escape_arguments : List (Argument Scalar)
escape_arguments =
    (unplaced (codes "id"), valued 22 26 (value.Scalar (text (codes "h1"))))
    ∷ (unplaced (codes "name"), valued 34 40 (value.Scalar (text (codes "a\"b")))) ∷ []

-- the string keeps its escape
pub of_an_escape : (given : Values)
    → plain_text escape_tokens (operation_with operation.Mutation None []
    (plain_by itself boolean given (field (field_named (codes "rename") escape_arguments true) []
    (name_field []) none)))
    ≡ codes "mutation { rename ( id : \"h1\" name : \"a\\\"b\" ) { name } }"
of_an_escape given = refl
