-- What the source text of a string stands for (GraphQL October 2021, 2.9.4 String Value).
-- Characters outside an escape stand for themselves, whichever they are: the lexer has refused
-- those that may not stand there.
use Rattle.std.specs.Prelude.{ℕ, zero, suc, ◌+◌, ◌*◌, ◌||◌, ◌==◌, if◌then◌else◌, Option, Some, None}
use Rattle.std.specs.Prelude.{Result, Ok, Err, List, [], ◌∷◌, drop, encode_utf8_all}
use Rattle.std.specs.Char.{is_ascii_hexdigit, is_ascii_alphanumeric, digit_value}
use Rattle.std.specs.Option.{option_and_then}
use Rattle.std.specs.Str.{chars}
use lib.Utf8.{scalar}
use Rattle.graphql_text.specs.Memory.{◌>>=◌}
use Rattle.graphql_text.specs.declared.token.LexerError.TheVariants.{UnterminatedString}
use Rattle.graphql_text.specs.declared.token.LexerError.TheVariants.{UnknownEscapeSequence}
use Rattle.graphql_text.specs.declared.parse_error.ParseError.{ParseError}
use Rattle.graphql_text.specs.declared.parse_error.ParseError.TheVariants.{LexerError}

-- the character that a backslash and this one stand for, the code's `u` aside: a quote, a slash and
-- a backslash for themselves, `b` for a backspace, `f` for a form feed, `n` for a line feed, `r`
-- for a carriage return, `t` for a tab
abbrev pub escaped_character : ℕ → Option ℕ
escaped_character c =
    if c == 34 || c == 47 || c == 92 then Some c
    else (if c == 98 then Some 8
    else (if c == 102 then Some 12
    else (if c == 110 then Some 10
    else (if c == 114 then Some 13
    else (if c == 116 then Some 9
    else None)))))

-- the number that a hexadecimal digit writes
unfoldable pub hex_digit : ℕ → Option ℕ
hex_digit c = if is_ascii_hexdigit c then Some (digit_value c) else None

-- the character of a code; the halves of pairs, D800 to DFFF, are none
unfoldable pub character : ℕ → Option ℕ
character n = if scalar n then Some n else None

abbrev pub and_then : {A B : Type 0} → Option A → (A → Option B) → Option B
and_then o f = option_and_then f o

-- the character of four hexadecimal digits
abbrev pub code_character : ℕ → ℕ → ℕ → ℕ → Option ℕ
code_character a b c d =
    and_then (hex_digit a)
    (λ w. and_then (hex_digit b) (λ x. and_then (hex_digit c) (λ y. and_then (hex_digit d) (λ z.
    character (4096 * w + 256 * x + 16 * y + z)))))

-- the letters and digits, at most n, that come next
abbrev pub letters : ℕ → List ℕ → List ℕ
letters zero cs = []
letters (suc n) [] = []
letters (suc n) (c ∷ cs) = if is_ascii_alphanumeric c then c ∷ letters n cs else []

-- the refusal of an escape, by these characters behind its backslash
abbrev pub unknown_escape : List ℕ → ParseError
unknown_escape cs = LexerError (UnknownEscapeSequence (92 ∷ encode_utf8_all cs))

-- the character of an escape of n characters behind its backslash, or its refusal
abbrev pub escape_or_refusal : Option ℕ → ℕ → List ℕ → Result (ℕ × ℕ) ParseError
escape_or_refusal (Some c) n cs = Ok (c, n)
escape_or_refusal None n cs = Err (unknown_escape cs)

-- the character of the four hexadecimal digits that come next
abbrev pub code_at : List ℕ → Option ℕ
code_at (a ∷ b ∷ c ∷ d ∷ cs) = code_character a b c d
code_at cs = None

-- of what stands behind a backslash: the character, and how many characters stand for it there
unfoldable pub escape : List ℕ → Result (ℕ × ℕ) ParseError
escape [] = Err (LexerError UnterminatedString)
escape (c ∷ cs) = if c == 117 then escape_or_refusal (code_at cs) 5 (117 ∷ letters 4 cs)
    else escape_or_refusal (escaped_character c) 1 (c ∷ [])

-- the same, with what stands behind the escape
unfoldable pub escape_and_rest : List ℕ → Result (ℕ × List ℕ) ParseError
escape_and_rest cs = escape cs >>= (λ e. Ok (e.0, drop e.1 cs))

abbrev pub preceded_by : ℕ → Result (List ℕ) ParseError → Result (List ℕ) ParseError
preceded_by c rest = rest >>= (λ cs. Ok (c ∷ cs))

-- the characters that those behind the first n stand for
abbrev pub decoded_behind : ℕ → List ℕ → Result (List ℕ) ParseError
decoded_behind n [] = Ok []
decoded_behind (suc n) (c ∷ cs) = decoded_behind n cs
decoded_behind zero (c ∷ cs) =
    if c == 92 then escape cs >>= (λ e. preceded_by e.0 (decoded_behind e.1 cs))
    else preceded_by c (decoded_behind 0 cs)

-- the characters that these stand for
abbrev pub decoded_characters : List ℕ → Result (List ℕ) ParseError
decoded_characters cs = decoded_behind 0 cs

-- the text that the source text of a string stands for
unfoldable pub string_value : List ℕ → Result (List ℕ) ParseError
string_value text = decoded_characters (chars text) >>= (λ cs. Ok (encode_utf8_all cs))
