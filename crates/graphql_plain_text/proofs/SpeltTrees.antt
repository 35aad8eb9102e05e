-- The tokens of plain operations are spelt, where names are, and those of values and types.
use Rattle.std.proofs.Common.{◌≡◌, refl, ℕ, Bool, true, false, List, [], ◌∷◌, ◌++◌, Option, Some, None, Result, cond, codes}
use Rattle.std.specs.List.{filter, flat_map}
use Rattle.std.specs.Str.{all_scalars}
use Rattle.graphql_names.specs.Names.{Bytes}
use Rattle.graphql_text.specs.declared.position.Span.{Span}
use Rattle.graphql_text.specs.declared.token.Token.{Token}
use Rattle.graphql_text.specs.declared.token.Token.TheVariants as t
use Rattle.graphql_text.specs.declared.token.ScalarToken.{ScalarToken}
use Rattle.graphql_text.specs.declared.parse_error.ParseError.{ParseError}
use Rattle.graphql_text.specs.Grammar.{IsName}
use Rattle.graphql_lexer.specs.Within.{is_within}
use Rattle.graphql_values.specs.declared.input_value.InputValue.{InputValue}
use Rattle.graphql_values.specs.InputValues.{Placed}
use Rattle.graphql_grammar.specs.Alike.{tokens_of}
use Rattle.graphql_grammar.specs.Input.{Located}
use Rattle.graphql_tree.specs.Arguments.{Argument}
use Rattle.graphql_tree.specs.Variables.{Variable}
use Rattle.graphql_tree.specs.declared.document.OperationType.{OperationType}
use Rattle.graphql_tree.specs.declared.document.OperationType.TheVariants as operation
use Rattle.graphql_plain_text.proofs.Words.{name_spells}
use Rattle.graphql_written_out.specs.Trees.{Directives, Tree, none, field, inline, is_empty}
use Rattle.graphql_plain_tree.specs.PlainOperations.{PlainOperation}
use Rattle.graphql_plain_text.specs.SpanTokens.{tokens_within}
use Rattle.graphql_plain_text.specs.SpelledTrees.{NameIsSpelt, NamesAreSpelt, TreeIsSpelled}
use Rattle.graphql_plain_text.specs.Spelt.{IsSpelt, AreSpelt}
use Rattle.graphql_plain_text.specs.TreeTokens.{in_parentheses, in_braces, in_braces_unless, name_tokens, condition_tokens, keyword, name_token, skip_tokens, directive_tokens, default_tokens, argument_tokens, selection_tokens, variable_tokens, operation_tokens}

pub spelt-append : (xs ys : List Token) → AreSpelt xs → AreSpelt ys → AreSpelt (xs ++ ys)
spelt-append [] ys h g = g
spelt-append (x ∷ xs) ys h g = (h.0, spelt-append xs ys h.1 g)

spelt-filter : (p : Located → Bool) (ts : List Located) → AreSpelt (tokens_of ts)
    → AreSpelt (tokens_of (filter p ts))
spelt-filter p [] h = tt
spelt-filter p (a ∷ ts) h =
    elim (p a) as (λ q. AreSpelt (tokens_of (cond q (a ∷ filter p ts) (filter p ts))))
    [ true ↦ (h.0, spelt-filter p ts h.1) | false ↦ spelt-filter p ts h.1 ]

-- so of the tokens within a span, where all of the text are
pub within-spelt : (ts : List Located) → AreSpelt (tokens_of ts) → (span : Span)
    → AreSpelt (tokens_within ts span)
within-spelt ts spelt span = spelt-filter (is_within span) ts spelt

-- ---- punctuators and words

paren-open : IsSpelt t.ParenOpen
paren-open = record { own = 40 ∷ []; are = refl; spells = refl; goes_on = refl }

paren-close : IsSpelt t.ParenClose
paren-close = record { own = 41 ∷ []; are = refl; spells = refl; goes_on = refl }

curly-open : IsSpelt t.CurlyOpen
curly-open = record { own = 123 ∷ []; are = refl; spells = refl; goes_on = refl }

curly-close : IsSpelt t.CurlyClose
curly-close = record { own = 125 ∷ []; are = refl; spells = refl; goes_on = refl }

colon : IsSpelt t.Colon
colon = record { own = 58 ∷ []; are = refl; spells = refl; goes_on = refl }

at-sign : IsSpelt t.At
at-sign = record { own = 64 ∷ []; are = refl; spells = refl; goes_on = refl }

equals : IsSpelt t.Equals
equals = record { own = 61 ∷ []; are = refl; spells = refl; goes_on = refl }

dollar : IsSpelt t.Dollar
dollar = record { own = 36 ∷ []; are = refl; spells = refl; goes_on = refl }

ellipsis : IsSpelt t.Ellipsis
ellipsis = record { own = 46 ∷ 46 ∷ 46 ∷ []; are = refl; spells = refl; goes_on = refl }

word : (n : List ℕ) → all_scalars n ≡ true → IsName n → IsSpelt (t.Name n)
word n are h = record { own = n; are = are; spells = name_spells n h; goes_on = refl }

on-word : IsSpelt (t.Name (codes "on"))
on-word = word (codes "on") refl (refl, (refl, tt))

skip-word : IsSpelt (t.Name (codes "skip"))
skip-word = word (codes "skip") refl (refl, (refl, (refl, (refl, tt))))

if-word : IsSpelt (t.Name (codes "if"))
if-word = word (codes "if") refl (refl, (refl, tt))

true-word : IsSpelt (t.Name (codes "true"))
true-word = word (codes "true") refl (refl, (refl, (refl, (refl, tt))))

key-word : (o : OperationType) → IsSpelt (t.Name (keyword o))
key-word operation.Query = word (codes "query") refl (refl, (refl, (refl, (refl, (refl, tt)))))
key-word operation.Mutation =
    word (codes "mutation") refl (refl, (refl, (refl, (refl, (refl, (refl, (refl, (refl, tt))))))))
key-word operation.Subscription =
    word (codes "subscription") refl (
      refl,
      (
        refl,
        (refl, (refl, (refl, (refl, (refl, (refl, (refl, (refl, (refl, (refl, tt)))))))))),
      ),
    )

-- ---- parts of selections

skip-spelt : AreSpelt skip_tokens
skip-spelt =
    (at-sign, (skip-word, (paren-open, (if-word, (colon, (true-word, (paren-close, tt)))))))

directives-spelt : {S : Type 0} (ds : Directives S) → AreSpelt (directive_tokens ds)
directives-spelt [] = tt
directives-spelt (x ∷ xs) = skip-spelt

names-spelt : (b : Bool) (key name : Bytes) → IsSpelt (t.Name key) → IsSpelt (t.Name name)
    → AreSpelt (name_tokens b key name)
names-spelt true key name h g = (h, (colon, (g, tt)))
names-spelt false key name h g = (g, tt)

condition-spelt : (o : Option Bytes) → NameIsSpelt o → AreSpelt (condition_tokens o)
condition-spelt None h = tt
condition-spelt (Some on) h = (on-word, (h, tt))

braces-spelt : (xs : List Token) → AreSpelt xs → AreSpelt (in_braces xs)
braces-spelt xs h = (curly-open, spelt-append xs (t.CurlyClose ∷ []) h (curly-close, tt))

maybe-spelt : (b : Bool) (xs : List Token) → AreSpelt xs → AreSpelt (in_braces_unless b xs)
maybe-spelt true xs h = tt
maybe-spelt false xs h = braces-spelt xs h

parentheses-spelt : {A : Type 0} (f : A → List Token) (xs : List A) → AreSpelt (flat_map f xs)
    → AreSpelt (in_parentheses f xs)
parentheses-spelt f [] h = tt
parentheses-spelt f (x ∷ xs) h =
    (paren-open, spelt-append (flat_map f (x ∷ xs)) (t.ParenClose ∷ []) h (paren-close, tt))

name-token-spelt : (o : Option Bytes) → NameIsSpelt o → AreSpelt (name_token o)
name-token-spelt None h = tt
name-token-spelt (Some n) h = (h, tt)

-- ---- sets, variables and operations, where the tokens within each span are spelt

module _ {S : Type 0} (spelled : Span → List Token) (each : (span : Span) → AreSpelt (spelled span))
  where
    arguments-spelt : (xs : List (Argument S)) → NamesAreSpelt xs
        → AreSpelt (flat_map (argument_tokens spelled) xs)
    arguments-spelt [] h = tt
    arguments-spelt (x ∷ xs) h =
        spelt-append (argument_tokens spelled x) (flat_map (argument_tokens spelled) xs)
        (h.0, (colon, each x.1.span)) (arguments-spelt xs h.1)

    module _ (reads : ScalarToken → Result S ParseError) (of_bool : Bool → S) where
      tree-spelt : (x : Tree S) → TreeIsSpelled S reads of_bool spelled x
          → AreSpelt (selection_tokens spelled x)
      tree-spelt none h = tt
      tree-spelt (field head ds below rest) h =
          spelt-append _ (selection_tokens spelled rest)
          (spelt-append (name_tokens head.is_aliased head.key head.name) _
          (names-spelt head.is_aliased head.key head.name h.0.key h.0.name)
          (spelt-append (in_parentheses (argument_tokens spelled) head.arguments) _
          (parentheses-spelt (argument_tokens spelled) head.arguments
          (arguments-spelt head.arguments h.0.names))
          (spelt-append (directive_tokens ds) _ (directives-spelt ds)
          (maybe-spelt (is_empty below) (selection_tokens spelled below) (tree-spelt below h.1)))))
          (tree-spelt rest h.2)
      tree-spelt (inline on ds below rest) h =
          spelt-append (t.Ellipsis ∷ (condition_tokens on
          ++ (directive_tokens ds ++ in_braces (selection_tokens spelled below))))
          (selection_tokens spelled rest) (
            ellipsis,
            spelt-append (condition_tokens on) _ (condition-spelt on h.0)
                (spelt-append (directive_tokens ds) _ (directives-spelt ds)
                (braces-spelt (selection_tokens spelled below) (tree-spelt below h.1))),
          )
          (tree-spelt rest h.2)

      default-spelt : (o : Option (Placed (InputValue S))) → AreSpelt (default_tokens spelled o)
      default-spelt None = tt
      default-spelt (Some x) = (equals, each x.span)

      pub variable-spelt : (v : Variable S) → IsSpelt (t.Name v.0.item)
          → AreSpelt (variable_tokens spelled v)
      variable-spelt v h = (
        dollar,
        (
          h,
          (
            colon,
            spelt-append (spelled v.1.var_type.span)
                (default_tokens spelled v.1.default_value) (each v.1.var_type.span)
                (default-spelt v.1.default_value),
          ),
        ),
      )

      pub operation-spelt : (p : PlainOperation S) → NameIsSpelt p.name
          → AreSpelt (flat_map (variable_tokens spelled) p.variables)
          → TreeIsSpelled S reads of_bool spelled p.set → AreSpelt (operation_tokens spelled p)
      operation-spelt p name variables set = (
        key-word p.operation_type,
        spelt-append (name_token p.name) _ (name-token-spelt p.name name)
            (spelt-append (in_parentheses (variable_tokens spelled) p.variables) _
            (parentheses-spelt (variable_tokens spelled) p.variables variables)
            (braces-spelt (selection_tokens spelled p.set) (tree-spelt p.set set))),
      )
