-- A text in parts is divided into the tokens of its parts.
use Rattle.std.proofs.Common.{◌≡◌, ℕ, Bool, true, false, ◌==◌, ◌||◌, List, [], ◌∷◌, ◌++◌, inl, inr, refl, sym, subst, ap, ◌∙◌, arith, append_assoc, append-nil}
use Rattle.std.specs.Char.{is_ascii_alphabetic, is_ascii_digit}
use Rattle.std.proofs.lemmas.Bool.Decides.{nat_tests}
use Rattle.graphql_text.specs.declared.token.Token.{Token}
use Rattle.graphql_text.specs.declared.token.Token.TheVariants as t
use Rattle.graphql_text.specs.declared.token.ScalarToken.TheVariants as s
use Rattle.graphql_text.specs.Characters.{is_blank, continues_name}
use Rattle.graphql_text.specs.Tokens.{is_end}
use Rattle.graphql_text.specs.Grammar.{NextIsNot, IsWhole, IsInteger, Spells, Ignored, blank, gap_of, AreIgnored, IsGap, Heads, Divides}
use Rattle.graphql_plain_text.specs.Parts.{TextPart, AreBlank, parts_text, IsTokenBefore, AllFit, up_to, located_part, tokens_of, end_of}
use Rattle.graphql_plain_text.specs.ReadBackLaws.{PartsAreTokens, ClosedTokensEnd}

-- ---- what a token begins with is not blank, and begins no comment

abbrev is_passed : ℕ → Bool
is_passed c = is_blank c || c == 35

letter_is_not_passed : (c : ℕ) → (c == 95 || is_ascii_alphabetic c) ≡ true → is_passed c ≡ false
letter_is_not_passed c h = grind (arith, nat_tests)

digit_is_not_passed : (c : ℕ) → is_ascii_digit c ≡ true → is_passed c ≡ false
digit_is_not_passed c h = grind (arith, nat_tests)

minus_is_not_passed : (c : ℕ) → (c == 45) ≡ true → is_passed c ≡ false
minus_is_not_passed c h = grind (arith, nat_tests)

-- in front of these characters, the token's own begin with none that is passed over
abbrev NoneIsPassed : List ℕ → List ℕ → Type 0
NoneIsPassed own rest = NextIsNot is_passed (own ++ rest)

whole_not_passed : (own rest : List ℕ) → IsWhole own → NoneIsPassed own rest
whole_not_passed own rest (inl is) = subst (λ cs. NoneIsPassed cs rest) (sym is) refl
whole_not_passed [] rest (inr h) = elim h.0 [ ]
whole_not_passed (c ∷ cs) rest (inr h) = digit_is_not_passed c h.0.0

integer_not_passed : (own rest : List ℕ) → IsInteger own → NoneIsPassed own rest
integer_not_passed own rest h = subst (λ cs. NoneIsPassed cs rest) (sym h.is) (elim h.sign_is [
  | inl none ↦ subst (λ cs. NoneIsPassed (cs ++ h.whole) rest) (sym none) (whole_not_passed h.whole rest h.whole_is)
  | inr one ↦ subst (λ cs. NoneIsPassed (cs ++ h.whole) rest) (sym one.2) (minus_is_not_passed one.0 one.1)
])

first_not_passed : (first : ℕ) (more own rest : List ℕ) → is_passed first ≡ false → own ≡ first ∷ more → NoneIsPassed own rest
first_not_passed first more own rest h is = subst (λ cs. NoneIsPassed cs rest) (sym is) h

token_not_passed : (token : Token) (own rest : List ℕ) → is_end token ≡ false → Spells token own → NoneIsPassed own rest
token_not_passed (t.Name n) [] rest goes_on h = elim h.0 [ ]
token_not_passed (t.Name n) (c ∷ cs) rest goes_on h = letter_is_not_passed c h.0.0
token_not_passed (t.Scalar (s.Int n)) own rest goes_on h = integer_not_passed own rest h.0
token_not_passed (t.Scalar (s.Float n)) own rest goes_on h =
    let f = h.0 in
    subst (λ cs. NextIsNot is_passed (cs ++ rest)) (sym f.is)
    (subst (λ cs. NextIsNot is_passed cs) (sym (append_assoc f.integer (f.fraction ++ f.exponent) rest)) (integer_not_passed f.integer ((f.fraction ++ f.exponent) ++ rest) f.integer_is))
token_not_passed (t.Scalar (s.String n)) own rest goes_on h = first_not_passed 34 (h.0 ++ 34 ∷ []) own rest refl h.1.is
token_not_passed t.ExclamationMark own rest goes_on h = first_not_passed 33 [] own rest refl h
token_not_passed t.Dollar own rest goes_on h = first_not_passed 36 [] own rest refl h
token_not_passed t.ParenOpen own rest goes_on h = first_not_passed 40 [] own rest refl h
token_not_passed t.ParenClose own rest goes_on h = first_not_passed 41 [] own rest refl h
token_not_passed t.BracketOpen own rest goes_on h = first_not_passed 91 [] own rest refl h
token_not_passed t.BracketClose own rest goes_on h = first_not_passed 93 [] own rest refl h
token_not_passed t.CurlyOpen own rest goes_on h = first_not_passed 123 [] own rest refl h
token_not_passed t.CurlyClose own rest goes_on h = first_not_passed 125 [] own rest refl h
token_not_passed t.Ellipsis own rest goes_on h = first_not_passed 46 (46 ∷ 46 ∷ []) own rest refl h
token_not_passed t.Colon own rest goes_on h = first_not_passed 58 [] own rest refl h
token_not_passed t.Equals own rest goes_on h = first_not_passed 61 [] own rest refl h
token_not_passed t.At own rest goes_on h = first_not_passed 64 [] own rest refl h
token_not_passed t.Pipe own rest goes_on h = first_not_passed 124 [] own rest refl h
token_not_passed t.EndOfFile own rest goes_on h = absurd (cc)

-- ---- blanks are a gap

ignored_of : List ℕ → List Ignored
ignored_of [] = []
ignored_of (c ∷ cs) = blank c ∷ ignored_of cs

gap_is : (cs : List ℕ) → cs ≡ gap_of (ignored_of cs)
unfolding ignored_of
gap_is [] = refl
gap_is (c ∷ cs) = ap (λ l. c ∷ l) (gap_is cs)

are_ignored : (cs rest : List ℕ) → AreBlank cs → AreIgnored (ignored_of cs) rest
unfolding ignored_of
are_ignored [] rest h = tt
are_ignored (c ∷ cs) rest h = (h.0, are_ignored cs rest h.1)

blanks_are_gap : (cs rest : List ℕ) → AreBlank cs → NextIsNot is_passed rest → IsGap cs rest
blanks_are_gap cs rest h none = record { ignored = ignored_of cs; is = gap_is cs; are = are_ignored cs rest h; no_more = none }

-- ---- parts are divided into their tokens

part_heads : (before : List ℕ) (p : TextPart) (behind : List ℕ) → IsTokenBefore p behind → Heads before (p.blanks ++ (p.own ++ behind)) (located_part before p) (up_to before p) behind
part_heads before p behind h = record {
  gap = p.blanks;
  own = p.own;
  is = refl;
  after_is = refl;
  gap_is = blanks_are_gap p.blanks (p.own ++ behind) h.blank (token_not_passed p.token p.own behind h.goes_on h.spells);
  spells = h.spells;
  ends = h.ends;
  start = refl;
  end = refl;
}

-- three texts in front of others
regrouped : (a b c d : List ℕ) → (a ++ (b ++ c)) ++ d ≡ a ++ (b ++ (c ++ d))
regrouped a b c d = append_assoc a (b ++ c) d ∙ ap (λ l. a ++ l) (append_assoc b c d)

pub up_to_all : (before : List ℕ) (p : TextPart) (text : List ℕ) → up_to before p ++ text ≡ before ++ (p.blanks ++ (p.own ++ text))
up_to_all before p text = append_assoc (before ++ p.blanks) p.own text ∙ append_assoc before p.blanks (p.own ++ text)

pub parts_divide : (before : List ℕ) (ps : List TextPart) (behind : List ℕ) → AllFit ps behind → Divides before (parts_text ps ++ behind) (tokens_of before ps) (before ++ parts_text ps) behind
parts_divide before [] behind fit = (sym (append-nil before), refl)
parts_divide before (p ∷ ps) behind fit =
    let after = up_to before p in
    let heads : Heads before ((p.blanks ++ (p.own ++ parts_text ps)) ++ behind) (located_part before p) after (parts_text ps ++ behind) =
    subst (λ l. Heads before l (located_part before p) after (parts_text ps ++ behind)) (sym (regrouped p.blanks p.own (parts_text ps) behind)) (part_heads before p (parts_text ps ++ behind) fit.0) in
    (after, parts_text ps ++ behind, heads, fit.0.goes_on, subst (λ l. Divides after (parts_text ps ++ behind) (tokens_of after ps) l behind) (up_to_all before p (parts_text ps)) (parts_divide after ps behind fit.1))

end_heads : (before blanks : List ℕ) → AreBlank blanks → Heads before blanks (record { item = t.EndOfFile; span = end_of (before ++ blanks) }) (before ++ blanks) []
end_heads before blanks h = record {
  gap = blanks;
  own = [];
  is = sym (append-nil blanks);
  after_is = sym (append-nil (before ++ blanks));
  gap_is = blanks_are_gap blanks [] h tt;
  spells = refl;
  ends = refl;
  start = refl;
  end = refl;
}

pub parts_are_tokens : PartsAreTokens
parts_are_tokens ps blanks h fit = record {
  front = tokens_of [] ps;
  last = record { item = t.EndOfFile; span = end_of (parts_text ps ++ blanks) };
  is = refl;
  before = parts_text ps;
  rest = blanks;
  divides = parts_divide [] ps blanks fit;
  heads = end_heads (parts_text ps) blanks h;
  end = refl;
}

-- ---- tokens end where what follows is closed

no_name : (c : ℕ) → (continues_name c || c == 46) ≡ false → continues_name c ≡ false
no_name c h = grind (arith, nat_tests)

no_digit : (c : ℕ) → (continues_name c || c == 46) ≡ false → is_ascii_digit c ≡ false
no_digit c h = grind (arith, nat_tests)

no_point : (c : ℕ) → (continues_name c || c == 46) ≡ false → (c == 46) ≡ false
no_point c h = grind (arith, nat_tests)

no_exponent : (c : ℕ) → (continues_name c || c == 46) ≡ false → (c == 101 || c == 69) ≡ false
no_exponent c h = grind (arith, nat_tests)

pub closed_tokens_end : ClosedTokensEnd
closed_tokens_end (t.Name n) own [] goes_on h = tt
closed_tokens_end (t.Name n) own (c ∷ cs) goes_on h = no_name c h
closed_tokens_end (t.Scalar (s.Int n)) own [] goes_on h = (tt, tt, tt)
closed_tokens_end (t.Scalar (s.Int n)) own (c ∷ cs) goes_on h = (no_digit c h, no_point c h, no_exponent c h)
closed_tokens_end (t.Scalar (s.Float n)) own [] goes_on h = (tt, inr tt)
closed_tokens_end (t.Scalar (s.Float n)) own (c ∷ cs) goes_on h = (no_digit c h, inr (no_exponent c h))
closed_tokens_end (t.Scalar (s.String n)) own behind goes_on h = tt
closed_tokens_end t.ExclamationMark own behind goes_on h = tt
closed_tokens_end t.Dollar own behind goes_on h = tt
closed_tokens_end t.ParenOpen own behind goes_on h = tt
closed_tokens_end t.ParenClose own behind goes_on h = tt
closed_tokens_end t.BracketOpen own behind goes_on h = tt
closed_tokens_end t.BracketClose own behind goes_on h = tt
closed_tokens_end t.CurlyOpen own behind goes_on h = tt
closed_tokens_end t.CurlyClose own behind goes_on h = tt
closed_tokens_end t.Ellipsis own behind goes_on h = tt
closed_tokens_end t.Colon own behind goes_on h = tt
closed_tokens_end t.Equals own behind goes_on h = tt
closed_tokens_end t.At own behind goes_on h = tt
closed_tokens_end t.Pipe own behind goes_on h = tt
closed_tokens_end t.EndOfFile own behind goes_on h = absurd (cc)
