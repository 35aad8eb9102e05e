-- What strings and integers stand for, in the words of the lexical grammar, and which escape of a
-- string is refused.
use Rattle.std.specs.Prelude.{◌≡◌, ◌≢◌, ◌↔◌, ℕ, ◌+◌, ◌*◌, ℤ, true, List, [], ◌∷◌, ◌++◌, map}
use Rattle.std.specs.Prelude.{encode_utf8_all, Ok, Err}
use Rattle.std.specs.Option.{unwrap_or}
use Rattle.std.specs.Str.{chars}
use Rattle.graphql_text.specs.declared.token.ScalarToken.TheVariants as token
use Rattle.graphql_text.specs.declared.parse_error.ParseError.{ParseError}
use Rattle.graphql_text.specs.Grammar.{Piece, character, escaped, code, ArePieces, IsCode}
use Rattle.graphql_text.specs.Grammar.{spellings, hex_value}
use Rattle.graphql_text.specs.Strings.{is_escape}
use Rattle.graphql_scalars.specs.declared.default_scalar.DefaultScalarValue.TheVariants.{Int}
use Rattle.graphql_scalars.specs.declared.default_scalar.DefaultScalarValue.TheVariants.{String}
use Rattle.graphql_scalars.specs.DefaultScalar.{reads}
use Rattle.graphql_scalars.specs.ScalarAnswers.{integer}
use Rattle.graphql_scalars.specs.ScalarText.{scalar_text}
use Rattle.graphql_scalars.specs.StringValue.{escaped_character, escape}

-- the character that a piece of a string stands for: itself, the one of its escape, the one of its
-- code
abbrev pub meaning : Piece → ℕ
meaning (character c) = c
meaning (escaped c) = unwrap_or (escaped_character c) c
meaning (code a b c d) = 4096 * hex_value a + 256 * hex_value b + 16 * hex_value c + hex_value d

-- a string token whose characters spell pieces of a string is read, as the characters that the
-- pieces stand for
abbrev pub StringsMeanTheirPieces : Type 0
StringsMeanTheirPieces =
    (text : List ℕ) (pieces : List Piece) → ArePieces pieces → chars text ≡ spellings pieces →
    reads (token.String text) ≡ Ok (String (encode_utf8_all (map meaning pieces)))

-- a piece that stands for a character: any but a backslash as it is, an escape of one, a code
abbrev pub HasMeaning : Piece → Type 0
HasMeaning (character c) = c ≢ 92
HasMeaning (escaped c) = is_escape c ≡ true
HasMeaning (code a b c d) = IsCode (a ∷ b ∷ c ∷ d ∷ [])

abbrev pub HaveMeanings : List Piece → Type 0
HaveMeanings [] = Unit {0}
HaveMeanings (x ∷ xs) = HasMeaning x × HaveMeanings xs

-- the first bad escape of a string's characters, from the left: pieces that stand for characters,
-- then a backslash, and behind it what is no escape, of which this is told
pub record HasFirstBadEscape (cs : List ℕ) (told : ParseError) : Type 0 where
  pub front : List Piece
  pub behind : List ℕ
  pub have : HaveMeanings front
  pub is : cs ≡ spellings front ++ 92 ∷ behind
  pub bad : escape behind ≡ Err told

-- a string token is refused exactly where an escape in it is bad, and the first bad one is told
abbrev pub FirstBadEscapeIsTold : Type 0
FirstBadEscapeIsTold =
    (text : List ℕ) (told : ParseError)
    → (reads (token.String text) ≡ Err told) ↔ HasFirstBadEscape (chars text) told

-- the text of an integer, as an integer token, is read as it
abbrev pub IsReadBack : ℤ → Type 0
IsReadBack n = reads (token.Int (scalar_text (integer n))) ≡ Ok (Int n)
