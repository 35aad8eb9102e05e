-- The steps that productions are made of.
use Rattle.std.specs.Prelude.{ℕ, zero, suc, Bool, if◌then◌else◌, List, [], ◌∷◌, ◌++◌, Result, Ok}
use Rattle.std.specs.Prelude.{Err, Option, Some, None}
use Rattle.graphql_text.specs.declared.token.Token.{Token}
use Rattle.graphql_text.specs.declared.token.Token.TheVariants as t
use Rattle.graphql_text.specs.declared.token.ScalarToken.{ScalarToken}
use Rattle.graphql_text.specs.declared.parse_error.ParseError.{ParseError}
use Rattle.graphql_grammar.specs.declared.kind.Kind.{Kind}
use Rattle.graphql_grammar.specs.declared.kind.Kind.TheVariants as k
use Rattle.graphql_grammar.specs.Kinds.{Kinds, only, names}
use Rattle.graphql_grammar.specs.Input.{At, Input, Parser, and_then, ◌>>=◌, pure, refuse, peek}
use Rattle.graphql_grammar.specs.Input.{peek_kind, next, left}

-- whether one of these kinds stands next
unfoldable pub sees : Kinds → Input → Bool
sees kinds i = kinds (peek_kind i)

-- p where one of these kinds stands next, else q
abbrev pub when : {A : Type 0} → Kinds → Parser A → Parser A → Parser A
when kinds p q = λ i. if sees kinds i then p i else q i

-- a token of these kinds, by what it means
unfoldable pub token : {A : Type 0} → Kinds → (Token → A) → Parser A
token kinds meaning = when kinds (λ i. Ok (meaning (peek i).item, next i)) refuse

-- a token of this kind
abbrev pub expect : Kind → Parser (Unit {0})
expect w = token (only w) (λ x. tt {0})

-- the text of a name
abbrev pub name_of : Token → List ℕ
name_of (t.Name n) = n
name_of x = []

-- a name of these kinds
abbrev pub name_in : Kinds → Parser (List ℕ)
name_in kinds = token kinds name_of

-- any name
abbrev pub name : Parser (List ℕ)
name = name_in names

module _ {S : Type 0} (reads : ScalarToken → Result S ParseError) where
  abbrev pub read_by : Result S ParseError → Parser S
  read_by (Ok s) = λ i. Ok (s, next i)
  read_by (Err e) = λ i. Err (record { item = e; span = (peek i).span })

  abbrev pub scalar_by : Token → Parser S
  scalar_by (t.Scalar s) = read_by (reads s)
  scalar_by x = refuse

  -- a scalar, by what its type reads
  unfoldable pub any_scalar : Parser S
  any_scalar = λ i. scalar_by (peek i).item i

-- with the place from its first token to its last
abbrev pub with_place : {A : Type 0} → Input → A → Parser (At A)
with_place i x =
    λ j. Ok (record { item = x; span = record { start = (peek i).span.start; end = j.end } }, j)

-- what a parser reads, with its place
abbrev pub located : {A : Type 0} → Parser A → Parser (At A)
located p = λ i. and_then (p i) (with_place i)

-- what begins with one of these kinds, if it stands next
abbrev pub optional : {A : Type 0} → Kinds → Parser A → Parser (Option A)
optional kinds p = when kinds (p >>= (λ x. pure (Some x))) (pure None)

-- All that begin with one of these kinds. Each takes a token, so the count of those that are left
-- is enough.
unfoldable pub all_from : {A : Type 0} → Kinds → Parser A → ℕ → List A → Parser (List A)
all_from kinds item zero found = pure found
all_from kinds item (suc n) found =
    when kinds (item >>= (λ x. all_from kinds item n (found ++ x ∷ []))) (pure found)

-- items as long as one begins, behind those that were found
abbrev pub all : {A : Type 0} → Kinds → Parser A → List A → Parser (List A)
all kinds item found = λ i. all_from kinds item (left i) found i

-- items up to the token that closes them
unfoldable pub until_from : {A : Type 0} → Kind → Parser A → ℕ → List A → Parser (List A)
until_from close item zero found = refuse
until_from close item (suc n) found = when (only close) (λ i. Ok (found, next i))
    (item >>= (λ x. until_from close item n (found ++ x ∷ [])))

-- items up to the token that closes, behind those that were found
abbrev pub until : {A : Type 0} → Kind → Parser A → List A → Parser (List A)
until close item found = λ i. until_from close item (left i) found i

-- items between two tokens
abbrev pub items_between : {A : Type 0} → Kind → Kind → Parser A → Parser (List A)
items_between w close item = expect w >>= (λ u. until close item [])

-- items between two tokens, one at least
abbrev pub some_between : {A : Type 0} → Kind → Kind → Parser A → Parser (List A)
some_between w close item = expect w >>= (λ u. item >>= (λ x. until close item (x ∷ [])))

-- nothing is left
abbrev pub finished : {A : Type 0} → A → Parser A
finished x = when (only k.EndOfFile) (pure x) refuse
