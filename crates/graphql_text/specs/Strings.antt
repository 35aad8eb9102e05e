-- How a string is read, character by character (GraphQL October 2021, 2.9.4 String Value).
use Rattle.std.specs.Prelude.{ℕ, nat_lt, not, false, ◌&&◌, ◌||◌, Option, Some, None, ◌+◌, Bool}
use Rattle.std.specs.Prelude.{List, [], ◌∷◌, if◌then◌else◌, ◌==◌, Result, Ok, Err, encode_utf8_all}
use Rattle.std.specs.Char.{is_ascii_hexdigit, is_ascii_alphanumeric}
use Rattle.graphql_text.specs.declared.position.SourcePosition.{SourcePosition}
use Rattle.graphql_text.specs.declared.token.Token.{Token}
use Rattle.graphql_text.specs.declared.token.Token.TheVariants.{Scalar}
use Rattle.graphql_text.specs.declared.token.ScalarToken.TheVariants.{String}
use Rattle.graphql_text.specs.declared.token.LexerError.{LexerError}
use Rattle.graphql_text.specs.declared.token.LexerError.TheVariants.{
  UnterminatedString,
  UnknownCharacterInString,
  UnknownEscapeSequence,
}
use Rattle.graphql_text.specs.declared.class.Class.TheVariants as class
use Rattle.graphql_text.specs.Position.{step}
use Rattle.graphql_text.specs.Reading.{Place, Refusal, refused, ◌>>=◌, past_one, between}

-- where a string goes on: not in an escape, behind its backslash, or behind n of the four digits of
-- a code, from the place behind the backslash on
pub data Mode : Type 0 where
  plain : Mode
  escape : Mode
  code : Place → ℕ → Mode

-- the characters that a backslash makes an escape of, the code's `u` aside
abbrev pub is_escape : ℕ → Bool
is_escape c =
    c == 34 || c == 47 || c == 92 || c == 110 || c == 114 || c == 116 || c == 102 || c == 98

-- `u` and four hexadecimal digits, which are no half of a pair
unfoldable pub is_code : List ℕ → Bool
is_code (u ∷ a ∷ b ∷ c ∷ d ∷ cs) =
    is_ascii_hexdigit a && is_ascii_hexdigit b && is_ascii_hexdigit c && is_ascii_hexdigit d
    && not ((a == 68 || a == 100) && nat_lt 55 b)
is_code _ = false

-- an escape that stands for no character: its backslash, and what stands from one place to another
abbrev pub bad_escape : List ℕ → List ℕ → LexerError
bad_escape from rest = UnknownEscapeSequence (92 ∷ encode_utf8_all (between from rest))

-- how a string goes on behind this character; None: it ends before it
unfoldable pub turn_plain : SourcePosition → ℕ → Result (Option Mode) Refusal
turn_plain at c =
    if c == 34 then Ok None
    else (if c == 92 then Ok (Some escape)
    else (if c == 10 || c == 13 then refused UnterminatedString at
    else (if nat_lt c 32 && not (c == 9) then refused (UnknownCharacterInString c) at
    else Ok (Some plain))))

unfoldable pub turn_escape : SourcePosition → ℕ → List ℕ → Result (Option Mode) Refusal
turn_escape at c cs =
    if is_escape c then Ok (Some plain)
    else (if c == 117 then Ok (Some (code (record { at = at; rest = c ∷ cs }) 0))
    else refused (bad_escape (c ∷ cs) cs) at)

unfoldable pub turn_code : Place → ℕ → ℕ → List ℕ → Result (Option Mode) Refusal
turn_code from n c cs =
    if is_ascii_alphanumeric c then
    (if nat_lt n 3 then Ok (Some (code from (n + 1)))
    else (if is_code from.rest then Ok (Some plain) else refused (bad_escape from.rest cs) from.at))
    else refused (bad_escape from.rest (c ∷ cs)) from.at

unfoldable pub turn : Mode → SourcePosition → ℕ → List ℕ → Result (Option Mode) Refusal
turn plain at c cs = turn_plain at c
turn escape at c cs = turn_escape at c cs
turn (code from n) at c cs = turn_code from n c cs

abbrev pub turned : Result (Option Mode) Refusal → Place → (Mode → Result Place Refusal)
    → Result Place Refusal
turned (Ok None) p go = Ok p
turned (Ok (Some m)) p go = go m
turned (Err e) p go = Err e

-- the place of the closing quote
abbrev pub string_from : Mode → SourcePosition → List ℕ → Result Place Refusal
string_from m at [] = refused UnterminatedString at
string_from m at (c ∷ cs) =
    turned (turn m at c cs) (record { at = at; rest = c ∷ cs }) (λ k. string_from k (step at c) cs)

-- the string whose text begins here
unfoldable pub string : Place → Result (Token × Place) Refusal
string p = string_from plain p.at p.rest >>= (λ q.
    Ok (Scalar (String (encode_utf8_all (between p.rest q.rest))), past_one class.Quote q))
