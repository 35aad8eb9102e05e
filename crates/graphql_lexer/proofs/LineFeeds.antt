-- No line feed stands among the characters that spell a token.
use Rattle.std.proofs.Common.{◌≡◌, ◌⊎◌, inl, inr, ℕ, Bool, true, false, ◌==◌, List, [], ◌∷◌, ◌++◌, cond, sym, ap, ◌∙◌, refl, arith}
use Rattle.std.specs.Prelude.{count_by}
use Rattle.std.specs.Char.{is_ascii_digit, is_ascii_hexdigit}
use Rattle.std.proofs.lemmas.Bool.{eqb-true}
use Rattle.std.proofs.lemmas.List.Sums.{sum_by-append, sum_by-cons}
use Rattle.graphql_text.specs.declared.token.Token.{Token}
use Rattle.graphql_text.specs.declared.token.Token.TheVariants.{Name, Scalar, ExclamationMark, Dollar, ParenOpen, ParenClose, BracketOpen, BracketClose, CurlyOpen, CurlyClose, Ellipsis, Colon, Equals, At, Pipe, EndOfFile}
use Rattle.graphql_text.specs.declared.token.ScalarToken.TheVariants.{String, Float, Int}
use Rattle.graphql_text.specs.declared.class.Class.{Class}
use Rattle.graphql_text.specs.declared.class.Class.TheVariants as class
use Rattle.graphql_text.specs.Characters.{continues_name}
use Rattle.graphql_text.specs.Reading.{is_in}
use Rattle.graphql_text.specs.Strings.{is_escape}
use Rattle.graphql_text.specs.Grammar.{Each, IsOptional, IsName, IsDigits, IsWhole, IsInteger, IsFraction, IsExponent, Piece, character, escaped, code, spelling, is_string_character, IsCode, IsPiece, ArePieces, spellings, IsStringText, Spells}

-- how many line feeds there are
abbrev pub line_feeds : List ℕ → ℕ
line_feeds = count_by (λ c. c == 10)

pub line_feeds_behind : (xs ys : List ℕ) → line_feeds ys ≡ 0 → line_feeds (xs ++ ys) ≡ line_feeds xs
line_feeds_behind xs ys none = omega (arith, sum_by-append (λ c. cond (c == 10) 1 0) xs ys, none)

none_of_both : (xs ys : List ℕ) → line_feeds xs ≡ 0 → line_feeds ys ≡ 0 → line_feeds (xs ++ ys) ≡ 0
none_of_both xs ys a b = line_feeds_behind xs ys b ∙ a

-- a character that passes a test that a line feed does not
no_line_feed : (test : ℕ → Bool) → test 10 ≡ false → (c : ℕ) → test c ≡ true → (c == 10) ≡ false
no_line_feed test fails c passes = either (c == 10) refl
  where
    either : (b : Bool) → (c == 10) ≡ b → (c == 10) ≡ false
    either false e = e
    either true e = absurd (let q : true ≡ false = sym passes ∙ ap test (eqb-true c 10 e) ∙ fails in cc)

none_first : (c : ℕ) (cs : List ℕ) → (c == 10) ≡ false → line_feeds cs ≡ 0 → line_feeds (c ∷ cs) ≡ 0
none_first c cs other none = omega (arith, sum_by-cons (λ d. cond (d == 10) 1 0) c cs, ap {B = ℕ} (λ b. cond b 1 0) other, none)

none_of_each : (test : ℕ → Bool) → test 10 ≡ false → (cs : List ℕ) → Each test cs → line_feeds cs ≡ 0
none_of_each test fails [] each = refl
none_of_each test fails (c ∷ cs) each = none_first c cs (no_line_feed test fails c each.0) (none_of_each test fails cs each.1)

none_optional : (k : Class) → is_in k 10 ≡ false → (cs : List ℕ) → IsOptional k cs → line_feeds cs ≡ 0
none_optional k fails cs (inl e) = ap line_feeds e
none_optional k fails cs (inr (c, passes, e)) = ap line_feeds e ∙ none_first c [] (no_line_feed (is_in k) fails c passes) refl

name_in_a_line : (cs : List ℕ) → IsName cs → line_feeds cs ≡ 0
name_in_a_line [] h = absurd h
name_in_a_line (c ∷ cs) h = none_first c cs (no_line_feed (is_in class.NameStart) refl c h.0) (none_of_each continues_name refl cs h.1)

digits_in_a_line : (cs : List ℕ) → IsDigits cs → line_feeds cs ≡ 0
digits_in_a_line [] h = absurd h
digits_in_a_line (c ∷ cs) h = none_of_each is_ascii_digit refl (c ∷ cs) h

whole_in_a_line : (cs : List ℕ) → IsWhole cs → line_feeds cs ≡ 0
whole_in_a_line cs (inl e) = ap line_feeds e
whole_in_a_line cs (inr h) = digits_in_a_line cs h.0

integer_in_a_line : (cs : List ℕ) → IsInteger cs → line_feeds cs ≡ 0
integer_in_a_line cs i = ap line_feeds i.is ∙ none_of_both i.sign i.whole (none_optional class.Minus refl i.sign i.sign_is) (whole_in_a_line i.whole i.whole_is)

fraction_in_a_line : (cs : List ℕ) → (cs ≡ []) ⊎ IsFraction cs → line_feeds cs ≡ 0
fraction_in_a_line cs (inl e) = ap line_feeds e
fraction_in_a_line cs (inr f) = ap line_feeds f.is ∙ digits_in_a_line f.digits f.digits_are

exponent_in_a_line : (cs : List ℕ) → (cs ≡ []) ⊎ IsExponent cs → line_feeds cs ≡ 0
exponent_in_a_line cs (inl e) = ap line_feeds e
exponent_in_a_line cs (inr x) =
    let b = x.begins in
    let front = ap line_feeds b.is ∙ none_first b.letter b.sign (no_line_feed (is_in class.Exponent) refl b.letter b.letter_is) (none_optional class.Sign refl b.sign b.sign_is) in
    ap line_feeds x.is ∙ none_of_both x.front x.digits front (digits_in_a_line x.digits x.digits_are)

code_in_a_line : (a b c d : ℕ) → IsCode (a ∷ b ∷ c ∷ d ∷ []) → line_feeds (a ∷ b ∷ c ∷ d ∷ []) ≡ 0
code_in_a_line a b c d h = none_of_each is_ascii_hexdigit refl (a ∷ b ∷ c ∷ d ∷ []) h.0

piece_in_a_line : (x : Piece) → IsPiece x → line_feeds (spelling x) ≡ 0
piece_in_a_line (character c) h = none_first c [] (no_line_feed is_string_character refl c h) refl
piece_in_a_line (escaped c) h = none_first c [] (no_line_feed is_escape refl c h) refl
piece_in_a_line (code a b c d) h = code_in_a_line a b c d h

pieces_in_a_line : (xs : List Piece) → ArePieces xs → line_feeds (spellings xs) ≡ 0
pieces_in_a_line [] h = refl
pieces_in_a_line (x ∷ xs) h = none_of_both (spelling x) (spellings xs) (piece_in_a_line x h.0) (pieces_in_a_line xs h.1)

string_in_a_line : (cs : List ℕ) → IsStringText cs → line_feeds cs ≡ 0
string_in_a_line cs s = ap line_feeds s.is ∙ pieces_in_a_line s.pieces s.are

pub spelled_in_a_line : (t : Token) (cs : List ℕ) → Spells t cs → line_feeds cs ≡ 0
spelled_in_a_line (Name s) cs h = name_in_a_line cs h.0
spelled_in_a_line (Scalar (Int s)) cs h = integer_in_a_line cs h.0
spelled_in_a_line (Scalar (Float s)) cs h =
    let f = h.0 in
    ap line_feeds f.is ∙ none_of_both f.integer (f.fraction ++ f.exponent) (integer_in_a_line f.integer f.integer_is)
    (none_of_both f.fraction f.exponent (fraction_in_a_line f.fraction f.fraction_is) (exponent_in_a_line f.exponent f.exponent_is))
spelled_in_a_line (Scalar (String s)) cs (text, q, e) = ap line_feeds q.is ∙ none_of_both text (34 ∷ []) (string_in_a_line text q.text_is) refl
spelled_in_a_line ExclamationMark cs h = ap line_feeds h
spelled_in_a_line Dollar cs h = ap line_feeds h
spelled_in_a_line ParenOpen cs h = ap line_feeds h
spelled_in_a_line ParenClose cs h = ap line_feeds h
spelled_in_a_line BracketOpen cs h = ap line_feeds h
spelled_in_a_line BracketClose cs h = ap line_feeds h
spelled_in_a_line CurlyOpen cs h = ap line_feeds h
spelled_in_a_line CurlyClose cs h = ap line_feeds h
spelled_in_a_line Ellipsis cs h = ap line_feeds h
spelled_in_a_line Colon cs h = ap line_feeds h
spelled_in_a_line Equals cs h = ap line_feeds h
spelled_in_a_line At cs h = ap line_feeds h
spelled_in_a_line Pipe cs h = ap line_feeds h
spelled_in_a_line EndOfFile cs h = ap line_feeds h
