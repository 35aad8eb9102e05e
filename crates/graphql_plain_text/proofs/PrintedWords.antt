-- The words of values and types, as they are printed.
use Rattle.std.proofs.Common.{◌≡◌, ◌<◌, ℕ, ℤ, false, List, [], ◌∷◌, ◌++◌, refl, arith}
use Rattle.std.specs.Prelude.{FitsSigned}
use Rattle.std.specs.Fmt.{signed_decimal}
use Rattle.std.specs.Str.{chars, IsAscii}
use Rattle.std.proofs.lemmas.Str.{encodes-chars}
use Rattle.std.proofs.lemmas.Str.Ascii.{IsAscii-cons, IsAscii-nil}
use mir.Syntax.{w32}
use Rattle.graphql_text.specs.declared.token.Token.{Token}
use Rattle.graphql_text.specs.declared.token.Token.TheVariants as t
use Rattle.graphql_text.specs.declared.token.ScalarToken.TheVariants as s
use Rattle.graphql_text.specs.Tokens.{is_end}
use Rattle.graphql_text.specs.Grammar.{IsName, Spells}
use Rattle.graphql_plain_text.specs.Writable.{IsPlain}
use Rattle.graphql_plain_text.proofs.Words.{name_is_ascii, name_spells, integer_is_ascii, integer_spells, quoted, string_spells}
use Rattle.graphql_plain_text.proofs.Printed.{writes_append, writes_ascii, IsWord}

pub name_word : (n : List ℕ) → IsName n → IsWord (t.Name n) n n
name_word n h = record { spells = name_spells n h; goes_on = refl; writes = writes_ascii n (name_is_ascii n h) }

pub mark_word : (token : Token) (c : ℕ) → c < 128 → is_end token ≡ false → Spells token (c ∷ []) → IsWord token (c ∷ []) (c ∷ [])
mark_word token c small goes_on h = record { spells = h; goes_on = goes_on; writes = writes_ascii (c ∷ []) (IsAscii-cons c [] small IsAscii-nil) }

pub dollar : IsWord t.Dollar (36 ∷ []) (36 ∷ [])
dollar = mark_word t.Dollar 36 (omega arith) refl refl

pub bracket_open : IsWord t.BracketOpen (91 ∷ []) (91 ∷ [])
bracket_open = mark_word t.BracketOpen 91 (omega arith) refl refl

pub bracket_close : IsWord t.BracketClose (93 ∷ []) (93 ∷ [])
bracket_close = mark_word t.BracketClose 93 (omega arith) refl refl

pub curly_open : IsWord t.CurlyOpen (123 ∷ []) (123 ∷ [])
curly_open = mark_word t.CurlyOpen 123 (omega arith) refl refl

pub curly_close : IsWord t.CurlyClose (125 ∷ []) (125 ∷ [])
curly_close = mark_word t.CurlyClose 125 (omega arith) refl refl

pub colon : IsWord t.Colon (58 ∷ []) (58 ∷ [])
colon = mark_word t.Colon 58 (omega arith) refl refl

quote_ascii : IsAscii (34 ∷ [])
quote_ascii = IsAscii-cons 34 [] (omega arith) IsAscii-nil

pub string_word : (text : List ℕ) → IsPlain text → IsWord (t.Scalar (s.String text)) (quoted text) (34 ∷ (text ++ 34 ∷ []))
string_word text h = record {
  spells = string_spells text h.utf8 h.plain;
  goes_on = refl;
  writes = writes_append (34 ∷ []) (chars text ++ 34 ∷ []) (34 ∷ []) (text ++ 34 ∷ []) (writes_ascii (34 ∷ []) quote_ascii)
      (writes_append (chars text) (34 ∷ []) text (34 ∷ []) (record { utf8 = h.utf8; is = encodes-chars text h.utf8 }) (writes_ascii (34 ∷ []) quote_ascii));
}

pub integer_word : (n : ℤ) → FitsSigned w32 n → IsWord (t.Scalar (s.Int (signed_decimal n))) (signed_decimal n) (signed_decimal n)
integer_word n fits = record { spells = integer_spells n fits; goes_on = refl; writes = writes_ascii (signed_decimal n) (integer_is_ascii n fits) }

pub exclamation_mark : IsWord t.ExclamationMark (33 ∷ []) (33 ∷ [])
exclamation_mark = mark_word t.ExclamationMark 33 (omega arith) refl refl
