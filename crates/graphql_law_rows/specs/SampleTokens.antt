-- Two texts of the same tokens at other places, and a text with a fault.
use Rattle.std.specs.Prelude.{ℕ, List, [], ◌∷◌, ◌++◌, true, codes, Ok, Err}
use Rattle.graphql_text.specs.declared.position.SourcePosition.{SourcePosition}
use Rattle.graphql_text.specs.declared.position.Span.{Span}
use Rattle.graphql_text.specs.declared.token.Token.{Token}
use Rattle.graphql_text.specs.declared.token.Token.TheVariants.{Name, CurlyOpen, CurlyClose}
use Rattle.graphql_text.specs.declared.token.Token.TheVariants.{EndOfFile}
use Rattle.graphql_text.specs.declared.token.LexerError.TheVariants.{UnknownCharacter}
use Rattle.graphql_text.specs.Reading.{Refusal}
use Rattle.graphql_text.specs.Tokens.{Located}
use Rattle.graphql_lexer.specs.OneByOne.{TokenOrRefusal, Remains}

-- a place by its index, line and column
abbrev pub at : ℕ → ℕ → ℕ → SourcePosition
at index line column = record { index = index; line = line; column = column }

abbrev pub span : SourcePosition → SourcePosition → Span
span start end = record { start = start; end = end }

abbrev pub token_at : Token → SourcePosition → SourcePosition → Located
token_at token start end = record { item = token; span = span start end }

-- `{`, a line feed and `a}`
abbrev pub two_lines : List ℕ
two_lines = 123 ∷ 10 ∷ 97 ∷ 125 ∷ []

abbrev pub opened : Located
opened = token_at CurlyOpen (at 0 0 0) (at 1 0 1)

abbrev pub name_token : Located
name_token = token_at (Name (codes "a")) (at 2 1 0) (at 3 1 1)

abbrev pub closed : Located
closed = token_at CurlyClose (at 3 1 1) (at 4 1 2)

abbrev pub ended : Located
ended = token_at EndOfFile (at 4 1 2) (at 4 1 2)

-- its tokens before the end, and all
abbrev pub before_end : List Located
before_end = opened ∷ name_token ∷ closed ∷ []

abbrev pub tokens : List Located
tokens = before_end ++ ended ∷ []

-- `{a}`
abbrev pub one_line : List ℕ
one_line = 123 ∷ 97 ∷ 125 ∷ []

abbrev pub others : List Located
others =
    token_at CurlyOpen (at 0 0 0) (at 1 0 1) ∷ token_at (Name (codes "a")) (at 1 0 1) (at 2 0 2)
    ∷ token_at CurlyClose (at 2 0 2) (at 3 0 3) ∷ token_at EndOfFile (at 3 0 3) (at 3 0 3) ∷ []

-- `{ ?`
abbrev pub broken : List ℕ
broken = 123 ∷ 32 ∷ 63 ∷ []

abbrev pub fault : Refusal
fault = record { item = UnknownCharacter 63; span = span (at 2 0 2) (at 2 0 2) }

-- what a lexer gives of it, one by one
abbrev pub answers : List TokenOrRefusal
answers = Ok opened ∷ Err fault ∷ []

-- and where it stands then
abbrev pub done : Remains
done = record { place = record { at = at 2 0 2; rest = 63 ∷ [] }; is_done = true }
