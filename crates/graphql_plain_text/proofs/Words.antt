-- The words of values: names, integers and strings, as tokens.
use Rattle.std.proofs.Common.{◌≡◌, ◌<◌, ◌^◌, ℕ, zero, suc, ℤ, pos, negsuc, true, ◌==◌, ◌||◌, Ok, List, [], ◌∷◌, ◌++◌, length, get_or, map, inl, inr, refl, sym, ap, ◌∙◌, arith, rules}
use Rattle.std.specs.Prelude.{encode_utf8_all, FitsSigned}
use Rattle.std.specs.Char.{is_ascii_alphabetic, is_ascii_alphanumeric, is_ascii_digit}
use Rattle.std.specs.Fmt.{decimal, signed_decimal}
use Rattle.std.specs.Str.{chars, IsUtf8, IsAscii}
use Rattle.std.proofs.lemmas.Bool.Decides.{nat_tests}
use Rattle.std.proofs.lemmas.Fmt.{digits_decimal, decimal_digit, decimal_nonempty, first_decimal, IsAscii-signed}
use Rattle.std.proofs.lemmas.Str.{encodes-chars, encodes-IsAscii}
use Rattle.std.proofs.lemmas.Str.Ascii.{IsAscii-cons, IsAscii-nil}
use Rattle.std.proofs.lemmas.Str.Parse.{IsDigitsTest, numerals_by_value}
use mir.Syntax.{w32}
use Rattle.graphql_text.specs.declared.token.Token.TheVariants as t
use Rattle.graphql_text.specs.declared.token.ScalarToken.TheVariants as s
use Rattle.graphql_text.specs.Grammar.{Each, NextIsNot, IsName, IsDigits, IsWhole, IsInteger, Piece, character, ArePieces, spellings, is_string_character, Spells}
use Rattle.graphql_scalars.specs.declared.default_scalar.DefaultScalarValue.TheVariants as scalar
use Rattle.graphql_scalars.specs.DefaultScalar.{reads}
use Rattle.graphql_scalars.specs.Laws.{meaning}
use Rattle.graphql_scalars.proofs.StringMeaning.{strings_mean_their_pieces}

-- ---- names

letter_is_ascii : (c : ℕ) → (c == 95 || is_ascii_alphabetic c) ≡ true → c < 128
letter_is_ascii c h = grind (arith, nat_tests)

letter_or_digit_is_ascii : (c : ℕ) → (c == 95 || is_ascii_alphanumeric c) ≡ true → c < 128
letter_or_digit_is_ascii c h = grind (arith, nat_tests)

each_is_ascii : (cs : List ℕ) → Each (λ c. c == 95 || is_ascii_alphanumeric c) cs → IsAscii cs
each_is_ascii [] h = IsAscii-nil
each_is_ascii (c ∷ cs) h = IsAscii-cons c cs (letter_or_digit_is_ascii c h.0) (each_is_ascii cs h.1)

pub name_is_ascii : (n : List ℕ) → IsName n → IsAscii n
name_is_ascii [] h = elim h [ ]
name_is_ascii (c ∷ cs) h = IsAscii-cons c cs (letter_is_ascii c h.0) (each_is_ascii cs h.1)

pub name_spells : (n : List ℕ) → IsName n → Spells (t.Name n) n
name_spells n h = (h, sym (encodes-IsAscii n (name_is_ascii n h)))

-- ---- integers

digit_test : IsDigitsTest (λ ds. Each is_ascii_digit ds)
digit_test = search rules

each_digit : (n : ℕ) → n < 2 ^ 64 → Each is_ascii_digit (decimal n)
each_digit n h = digits_decimal (numerals_by_value (λ ds. Each is_ascii_digit ds) digit_test) n h

digits_are : (ds : List ℕ) → 0 < length ds → Each is_ascii_digit ds → IsDigits ds
digits_are [] some h = absurd (omega arith)
digits_are (d ∷ ds) some h = h

no_zero : (ds : List ℕ) → 48 < get_or ds 0 0 → NextIsNot (λ c. c == 48) ds
no_zero [] h = tt
no_zero (d ∷ ds) h = grind (arith, nat_tests)

decimal_is_whole : (n : ℕ) → n < 2 ^ 64 → IsWhole (decimal n)
decimal_is_whole zero h = inl (decimal_digit 0 (omega arith))
decimal_is_whole (suc n) h =
    inr (digits_are (decimal (suc n)) (decimal_nonempty (suc n) h) (each_digit (suc n) h), no_zero (decimal (suc n)) (first_decimal (suc n) (omega arith) h))

pub decimal_is_integer : (z : ℤ) → FitsSigned w32 z → IsInteger (signed_decimal z)
decimal_is_integer (pos n) fits = record { sign = []; whole = decimal n; is = refl; sign_is = inl refl; whole_is = decimal_is_whole n (omega (arith, fits.sfits)) }
decimal_is_integer (negsuc n) fits =
    record { sign = 45 ∷ []; whole = decimal (suc n); is = refl; sign_is = inr (45, refl, refl); whole_is = decimal_is_whole (suc n) (omega (arith, fits.sfits)) }

pub integer_is_ascii : (z : ℤ) → FitsSigned w32 z → IsAscii (signed_decimal z)
integer_is_ascii (pos n) fits = IsAscii-signed (pos n) (omega (arith, fits.sfits))
integer_is_ascii (negsuc n) fits = IsAscii-signed (negsuc n) (omega (arith, fits.sfits))

pub integer_spells : (z : ℤ) → FitsSigned w32 z → Spells (t.Scalar (s.Int (signed_decimal z))) (signed_decimal z)
integer_spells z fits = (decimal_is_integer z fits, sym (encodes-IsAscii (signed_decimal z) (integer_is_ascii z fits)))

-- ---- strings

plain_pieces : List ℕ → List Piece
plain_pieces [] = []
plain_pieces (c ∷ cs) = character c ∷ plain_pieces cs

plain_are : (cs : List ℕ) → Each is_string_character cs → ArePieces (plain_pieces cs)
unfolding plain_pieces
plain_are [] h = tt
plain_are (c ∷ cs) h = (h.0, plain_are cs h.1)

plain_spell : (cs : List ℕ) → cs ≡ spellings (plain_pieces cs)
unfolding plain_pieces
plain_spell [] = refl
plain_spell (c ∷ cs) = ap (λ l. c ∷ l) (plain_spell cs)

plain_mean : (cs : List ℕ) → map meaning (plain_pieces cs) ≡ cs
unfolding plain_pieces
plain_mean [] = refl
plain_mean (c ∷ cs) = ap (λ l. c ∷ l) (plain_mean cs)

-- a text's characters between quotes
abbrev pub quoted : List ℕ → List ℕ
quoted text = 34 ∷ (chars text ++ 34 ∷ [])

pub string_spells : (text : List ℕ) → IsUtf8 text → Each is_string_character (chars text) → Spells (t.Scalar (s.String text)) (quoted text)
string_spells text utf8 plain =
    (chars text, record { is = refl; text_is = record { pieces = plain_pieces (chars text); are = plain_are (chars text) plain; is = plain_spell (chars text) } }, sym (encodes-chars text utf8))

pub string_reads : (text : List ℕ) → IsUtf8 text → Each is_string_character (chars text) → reads (s.String text) ≡ Ok (scalar.String text)
string_reads text utf8 plain =
    strings_mean_their_pieces text (plain_pieces (chars text)) (plain_are (chars text) plain) (plain_spell (chars text))
    ∙ ap (λ cs. Ok (scalar.String (encode_utf8_all cs))) (plain_mean (chars text)) ∙ ap (λ bs. Ok (scalar.String bs)) (encodes-chars text utf8)
