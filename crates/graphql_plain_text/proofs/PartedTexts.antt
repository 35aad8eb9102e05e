-- Tokens that some characters spell, parted by single spaces, are the tokens of that text.
use Rattle.std.proofs.Common.{◌≡◌, refl, sym, ◌∙◌, ap, subst, ℕ, arith, Bool, true, false, ◌&&◌, List, [], ◌∷◌, ◌++◌, map, append-nil}
use Rattle.std.specs.Prelude.{encode_utf8_all}
use Rattle.std.specs.Str.{all_scalars, chars, IsUtf8}
use lib.Utf8.{scalar}
use Rattle.std.proofs.lemmas.Str.{encodes-append, encodes-IsAscii, chars_from_encodes, IsUtf8-nil, IsUtf8-append}
use Rattle.std.proofs.lemmas.Str.Ascii.{IsAscii-cons, IsAscii-nil}
use Rattle.graphql_names.specs.Names.{Bytes}
use Rattle.graphql_text.specs.declared.position.Span.{Span}
use Rattle.graphql_text.specs.declared.token.Token.{Token}
use Rattle.graphql_text.specs.Spelling.{source_of}
use Rattle.graphql_text.specs.Tokens.{Located}
use Rattle.graphql_text.specs.Grammar.{Spells, Divides, IsDivided}
use Rattle.graphql_lexer.proofs.DividedLaws.{source_is_slice}
use Rattle.graphql_plain_text.proofs.RisingTokens.{same_push}
use Rattle.graphql_language.specs.Texts.{IsCut}
use Rattle.graphql_plain_text.specs.Parts.{TextPart, AreBlank, IsClosed, parts_text, IsTokenBefore, AllFit, tokens_of as located_in, up_to, end_of}
use Rattle.graphql_plain_text.proofs.Parts.{parts_are_tokens, closed_tokens_end}
use Rattle.graphql_plain_text.specs.Spelt.{IsSpelt, AreSpelt}
use Rattle.graphql_grammar.specs.Alike.{tokens_of}
use Rattle.graphql_plain_text.specs.PlainTexts.{spaced, parted_text}
use Rattle.graphql_plain_text.specs.Laws.{SourcesAreTexts}
use Rattle.graphql_lexer.specs.Within.{with_text, within}

space : encode_utf8_all (32 ∷ []) ≡ 32 ∷ []
space = encodes-IsAscii (32 ∷ []) (IsAscii-cons 32 [] (omega arith) IsAscii-nil)

-- the source text of a token is that of its characters
source-is : (x : Token) (own : List ℕ) → Spells x own → encode_utf8_all own ≡ source_of x
source-is x own h = sym (source_is_slice x own h)

-- ---- spelt tokens are UTF-8

source-utf8 : (x : Token) → IsSpelt x → IsUtf8 (source_of x)
source-utf8 x h = (h.own, (h.are, source-is x h.own h.spells))

spaced-utf8 : (xs : List Token) → AreSpelt xs → IsUtf8 (spaced xs)
spaced-utf8 [] h = IsUtf8-nil
spaced-utf8 (x ∷ xs) h =
    IsUtf8-append (32 ∷ source_of x) (spaced xs)
    (IsUtf8-append (32 ∷ []) (source_of x) (32 ∷ [], (refl, space)) (source-utf8 x h.0))
    (spaced-utf8 xs h.1)

pub parted-utf8 : (xs : List Token) → AreSpelt xs → IsUtf8 (parted_text xs)
parted-utf8 [] h = IsUtf8-nil
parted-utf8 (x ∷ xs) h =
    IsUtf8-append (source_of x) (spaced xs) (source-utf8 x h.0) (spaced-utf8 xs h.1)

-- ---- parts, each behind a space

spaced_parts : (xs : List Token) → AreSpelt xs → List TextPart
spaced_parts [] h = []
spaced_parts (x ∷ xs) h =
    record { blanks = 32 ∷ []; token = x; own = h.0.own } ∷ spaced_parts xs h.1

closed : (xs : List Token) (h : AreSpelt xs) → IsClosed (parts_text (spaced_parts xs h) ++ [])
unfolding spaced_parts
closed [] h = tt
closed (x ∷ xs) h = refl

-- a part, by the blanks in front of its token
abbrev part : List ℕ → (x : Token) → IsSpelt x → TextPart
part blanks x h = record { blanks = blanks; token = x; own = h.own }

-- it fits in front of the others, where its blanks are blank
fits : (blanks : List ℕ) → AreBlank blanks
    → (x : Token) (h : IsSpelt x) (xs : List Token) (hs : AreSpelt xs)
    → IsTokenBefore (part blanks x h) (parts_text (spaced_parts xs hs) ++ [])
fits blanks blank x h xs hs =
    let behind = parts_text (spaced_parts xs hs) ++ [] in
    record {
      blank = blank;
      spells = h.spells;
      ends = closed_tokens_end x h.own behind h.goes_on (closed xs hs);
      goes_on = h.goes_on;
    }

spaced_fit : (xs : List Token) (h : AreSpelt xs) → AllFit (spaced_parts xs h) []
unfolding spaced_parts
spaced_fit [] h = tt
spaced_fit (x ∷ xs) h = (fits (32 ∷ []) (refl, tt) x h.0 xs h.1, spaced_fit xs h.1)

-- the bytes of a token and of those behind it
part_bytes : (x : Token) (h : IsSpelt x) (behind : List ℕ) (bytes : Bytes)
    → encode_utf8_all behind ≡ bytes
    → encode_utf8_all (h.own ++ behind) ≡ source_of x ++ bytes
part_bytes x h behind bytes e =
    encodes-append h.own behind ∙ (λ i. source-is x h.own h.spells i ++ e i)

spaced_bytes : (xs : List Token) (h : AreSpelt xs)
    → encode_utf8_all (parts_text (spaced_parts xs h)) ≡ spaced xs
unfolding spaced_parts
spaced_bytes [] h = refl
spaced_bytes (x ∷ xs) h =
    let behind = parts_text (spaced_parts xs h.1) in
    encodes-append (32 ∷ []) (h.0.own ++ behind)
    ∙ (λ i. space i ++ part_bytes x h.0 behind (spaced xs) (spaced_bytes xs h.1) i)

spaced_items : (before : List ℕ) (xs : List Token) (h : AreSpelt xs)
    → tokens_of (located_in before (spaced_parts xs h)) ≡ xs
unfolding spaced_parts
spaced_items before [] h = refl
spaced_items before (x ∷ xs) h =
    ap (λ l. x ∷ l) (spaced_items (up_to before (part (32 ∷ []) x h.0)) xs h.1)

parts : (xs : List Token) → AreSpelt xs → List TextPart
parts [] h = []
parts (x ∷ xs) h = part [] x h.0 ∷ spaced_parts xs h.1

parts_fit : (xs : List Token) (h : AreSpelt xs) → AllFit (parts xs h) []
unfolding parts
parts_fit [] h = tt
parts_fit (x ∷ xs) h = (fits [] tt x h.0 xs h.1, spaced_fit xs h.1)

parts_bytes : (xs : List Token) (h : AreSpelt xs)
    → encode_utf8_all (parts_text (parts xs h)) ≡ parted_text xs
unfolding parts
parts_bytes [] h = refl
parts_bytes (x ∷ xs) h =
    part_bytes x h.0 (parts_text (spaced_parts xs h.1)) (spaced xs) (spaced_bytes xs h.1)

parts_items : (xs : List Token) (h : AreSpelt xs) → tokens_of (located_in [] (parts xs h)) ≡ xs
unfolding parts
parts_items [] h = refl
parts_items (x ∷ xs) h = ap (λ l. x ∷ l) (spaced_items (up_to [] (part [] x h.0)) xs h.1)

-- the text is cut into these tokens
pub record CutInto (text : List ℕ) (xs : List Token) : Type 0 where
  pub tokens : List Located
  pub finish : Span
  pub cut : IsCut text tokens finish
  pub same : tokens_of tokens ≡ xs

pub parted-is-cut : (xs : List Token) → AreSpelt xs → CutInto (chars (parted_text xs)) xs
parted-is-cut xs h =
    let ps = parts xs h in
    let same : parts_text ps ≡ chars (parted_text xs) =
    chars_from_encodes (parts_text ps) (parted_text xs) (parted-utf8 xs h) (parts_bytes xs h) in
    record {
      tokens = located_in [] ps;
      finish = end_of (parts_text ps ++ []);
      cut = subst (λ text. IsCut text (located_in [] ps) (end_of (parts_text ps ++ [])))
          (append-nil (parts_text ps) ∙ same) (parts_are_tokens ps [] tt (parts_fit xs h));
      same = parts_items xs h;
    }

-- ---- the tokens of a text are spelt

both-true : (a b : Bool) → (a && b) ≡ true → (a ≡ true) × (b ≡ true)
both-true true b h = (refl, h)
both-true false b h = absurd (cc)

-- of codes of characters, one list behind another
scalars-left : (xs ys : List ℕ) → all_scalars (xs ++ ys) ≡ true → all_scalars xs ≡ true
scalars-left [] ys h = refl
scalars-left (c ∷ xs) ys h =
    let parts = both-true (scalar c) (all_scalars (xs ++ ys)) h in
    λ i. parts.0 i && scalars-left xs ys parts.1 i

scalars-right : (xs ys : List ℕ) → all_scalars (xs ++ ys) ≡ true → all_scalars ys ≡ true
scalars-right [] ys h = h
scalars-right (c ∷ xs) ys h =
    scalars-right xs ys (both-true (scalar c) (all_scalars (xs ++ ys)) h).1

divided-spelt : (before rest : List ℕ) (ts : List Located) (after behind : List ℕ)
    → Divides before rest ts after behind
    → all_scalars rest ≡ true → AreSpelt (tokens_of ts)
divided-spelt before rest [] after behind d are = tt
divided-spelt before rest (x ∷ ts) after behind (middle, more, h, goes, d) are =
    let own : all_scalars (h.own ++ more) ≡ true =
    scalars-right h.gap (h.own ++ more) (sym (ap all_scalars h.is) ∙ are) in (
      record { own = h.own; are = scalars-left h.own more own; spells = h.spells; goes_on = goes },
      divided-spelt middle more ts after behind d (scalars-right h.own more own),
    )

pub tokens-spelt : (text : List ℕ) (ts : List Located) (last : Located) → all_scalars text ≡ true
    → IsDivided text (ts ++ last ∷ []) → AreSpelt (tokens_of ts)
tokens-spelt text ts last are d =
    subst (λ l. AreSpelt (tokens_of l)) (sym (same_push ts d.front last d.last d.is))
    (divided-spelt [] text d.front d.before d.rest d.divides are)

-- ---- the source texts of tokens are those that are told with them

texts-of : (ts : List Located) → map source_of (tokens_of ts) ≡ map (λ x. x.text) (map with_text ts)
texts-of [] = refl
texts-of (x ∷ ts) = ap (λ l. source_of x.item ∷ l) (texts-of ts)

pub sources-are-texts : SourcesAreTexts
sources-are-texts tokens span = texts-of (within tokens span)
