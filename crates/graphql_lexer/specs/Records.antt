-- Tokens of a text as records: what each is and where it stands, its text left in the source
-- (GraphQL October 2021, 2.1.6 Lexical Tokens).
use Rattle.std.specs.Prelude.{◌≡◌, ◌≤◌, ◌<◌, ◌+◌, ◌-◌, ◌^◌, ℕ, List, [], ◌∷◌, ◌++◌, length, map}
use Rattle.std.specs.Prelude.{get_or, slice_range}
use Rattle.std.specs.List.{All}
use Rattle.std.specs.Str.{IsCharBoundary}
use Rattle.graphql_text.specs.declared.position.Span.{Span}
use Rattle.graphql_lexer.specs.declared.token_record.TokenKind.{TokenKind}
use Rattle.graphql_lexer.specs.declared.token_record.TokenKind.TheVariants as k
use Rattle.graphql_lexer.specs.declared.token_record.TokenRecord.{TokenRecord}
use Rattle.graphql_text.specs.declared.token.Token.{Token}
use Rattle.graphql_text.specs.declared.token.Token.TheVariants as t
use Rattle.graphql_text.specs.declared.token.ScalarToken.TheVariants as s
use Rattle.graphql_text.specs.Spelling.{source_of}
use Rattle.graphql_text.specs.Tokens.{Located}
use Rattle.graphql_text.specs.Grammar.{IsDivided}
use Rattle.graphql_lexer.specs.Within.{Rises}

-- ---- kinds

-- what a token is, its text aside
abbrev pub kind_of : Token → TokenKind
kind_of (t.Name text) = k.Name
kind_of (t.Scalar (s.String text)) = k.String
kind_of (t.Scalar (s.Float text)) = k.Float
kind_of (t.Scalar (s.Int text)) = k.Int
kind_of t.ExclamationMark = k.ExclamationMark
kind_of t.Dollar = k.Dollar
kind_of t.ParenOpen = k.ParenOpen
kind_of t.ParenClose = k.ParenClose
kind_of t.BracketOpen = k.BracketOpen
kind_of t.BracketClose = k.BracketClose
kind_of t.CurlyOpen = k.CurlyOpen
kind_of t.CurlyClose = k.CurlyClose
kind_of t.Ellipsis = k.Ellipsis
kind_of t.Colon = k.Colon
kind_of t.Equals = k.Equals
kind_of t.At = k.At
kind_of t.Pipe = k.Pipe
kind_of t.EndOfFile = k.EndOfFile

-- a string's text stands between its quotes
abbrev pub unquoted : List ℕ → List ℕ
unquoted text = slice_range text 1 (length text - 1)

-- a quote at the front, and another at the end
abbrev pub IsQuoted : List ℕ → Type 0
IsQuoted text = (2 ≤ length text) × (get_or text 0 0 ≡ 34) × (get_or text (length text - 1) 0 ≡ 34)

-- the token of a kind with this source text
abbrev pub token_from : TokenKind → List ℕ → Token
token_from k.Name text = t.Name text
token_from k.String text = t.Scalar (s.String (unquoted text))
token_from k.Float text = t.Scalar (s.Float text)
token_from k.Int text = t.Scalar (s.Int text)
token_from k.ExclamationMark text = t.ExclamationMark
token_from k.Dollar text = t.Dollar
token_from k.ParenOpen text = t.ParenOpen
token_from k.ParenClose text = t.ParenClose
token_from k.BracketOpen text = t.BracketOpen
token_from k.BracketClose text = t.BracketClose
token_from k.CurlyOpen text = t.CurlyOpen
token_from k.CurlyClose text = t.CurlyClose
token_from k.Ellipsis text = t.Ellipsis
token_from k.Colon text = t.Colon
token_from k.Equals text = t.Equals
token_from k.At text = t.At
token_from k.Pipe text = t.Pipe
token_from k.EndOfFile text = t.EndOfFile

-- ---- one record

-- the source text of a record's token: its bytes, from where it begins
abbrev pub text_at : List ℕ → TokenRecord → List ℕ
text_at source r = slice_range source r.offset (r.offset + r.len)

-- the part of a text in which a record's token stands, which is one line's
abbrev pub span_of : TokenRecord → Span
span_of r = record {
  start = r.start;
  end = record {
    index = r.start.index + r.width;
    line = r.start.line;
    column = r.start.column + r.width;
  };
}

-- the place behind a record's token is a place that can be told
abbrev pub HasRoom : TokenRecord → Type 0
HasRoom r = (r.start.index + r.width < 2 ^ 64) × (r.start.column ≤ r.start.index)

-- the token of a record, at its place
unfoldable pub token_of : List ℕ → TokenRecord → Located
token_of source r = record { item = token_from r.kind (text_at source r); span = span_of r }

-- a record's token can be cut from the text, its end can be told, and what is cut is its source
-- text
pub record StandsIn (source : List ℕ) (r : TokenRecord) : Type 0 where
  pub begins : IsCharBoundary source r.offset
  pub ends : IsCharBoundary source (r.offset + r.len)
  pub room : HasRoom r
  pub spells : text_at source r ≡ source_of (token_from r.kind (text_at source r))

-- ---- those of a text

abbrev pub tokens_in : List ℕ → List TokenRecord → List Located
tokens_in source rs = map (token_of source) rs

abbrev pub AllStand : List ℕ → List TokenRecord → Type 0
AllStand source rs = All (StandsIn source) rs

-- each fits the text, and their tokens stand one behind the other
abbrev pub AreRecords : List ℕ → List TokenRecord → Type 0
AreRecords source rs = AllStand source rs × Rises 0 (tokens_in source rs)

-- the tokens of a text before its end, and where that is
pub record Recorded : Type 0 where
  pub tokens : List Located
  pub finish : Span

-- the text is divided into these tokens and its end
abbrev pub IsRecorded : List ℕ → Recorded → Type 0
IsRecorded text r = IsDivided text (r.tokens ++ record { item = t.EndOfFile; span = r.finish } ∷ [])
