-- A string, and any token, of the grammar is read.
use Rattle.std.proofs.Common.{◌≡◌, ◌⊎◌, inl, inr, ℕ, ◌+◌, ◌≤◌, Bool, true, false, cond, not, nat_le, nat_lt, ◌&&◌, ◌||◌, ◌==◌, List, [], ◌∷◌, ◌++◌, sym, subst, ap, ◌∙◌, refl, Result, Ok, Some, append_assoc, encode_utf8_all, arith}
use Rattle.std.proofs.lemmas.Bool.{eqb-true, leb-true, le-leb, lt-leb, le-ltb, and_parts, and_from, and_left, and_right, or_cases, or_parts, or_from, or_left, or_right, not-true, ne_eqb, true_from_ne_false}
use Rattle.std.specs.Int.{is_in_range}
use Rattle.std.specs.Char.{is_ascii_digit, is_ascii_hexdigit, is_ascii_alphabetic, is_ascii_alphanumeric}
use Rattle.graphql_text.specs.declared.position.SourcePosition.{SourcePosition}
use Rattle.graphql_text.specs.declared.token.Token.{Token}
use Rattle.graphql_text.specs.declared.token.Token.TheVariants.{Name, Scalar, ExclamationMark, Dollar, ParenOpen, ParenClose, BracketOpen, BracketClose, CurlyOpen, CurlyClose, Ellipsis, Colon, Equals, At, Pipe, EndOfFile}
use Rattle.graphql_text.specs.declared.token.ScalarToken.TheVariants.{String, Float, Int}
use Rattle.graphql_text.specs.declared.class.Class.TheVariants as class
use Rattle.graphql_text.specs.Position.{origin, step}
use Rattle.graphql_text.specs.Reading.{Place, Refusal, ◌>>=◌, is_in, past_one, between}
use Rattle.graphql_text.specs.Numbers.{number}
use Rattle.graphql_text.specs.Strings.{is_escape, is_code, Mode, plain, escape, code, turn_plain, turn_escape, turn_code, turn, turned, string_from, string}
use Rattle.graphql_text.specs.Tokens.{Located, ellipsis, point, name_from, token, ahead_from, ahead, cut, Runs, Tokens}
use Rattle.graphql_text.specs.Grammar.{Each, NextIs, NextIsNot, IsOptional, IsName, IsDigits, IsWhole, IsInteger, Piece, character, escaped, spelling, spellings, is_string_character, IsCode, IsPiece, ArePieces, IsStringText, IsQuoted, Spells, Ends, Ignored, blank, comment, gap_of, AreIgnored, IsGap, Heads, Divides, IsDivided}
use Rattle.graphql_text.specs.Grammar as grammar
use Rattle.graphql_lexer.proofs.TextLemmas.{between_front}
use Rattle.graphql_lexer.proofs.Leading.{advance, advance-append}
use Rattle.graphql_lexer.proofs.SoundStrings.{is_code_false, range_of}
use Rattle.graphql_lexer.proofs.SoundTexts.{advance_origin}
use Rattle.graphql_lexer.proofs.CompleteNumbers.{if_true, if_false, behind, here, past_is, int_is, float_is}

-- ---- strings

plain_goes : (at : SourcePosition) (c : ℕ) → is_string_character c ≡ true → turn_plain at c ≡ Ok (Some plain)
unfolding turn_plain
plain_goes at c h =
    let p = and_parts (not (c == 34) && not (c == 92)) (nat_le 32 c || c == 9) h in
    let q = and_parts (not (c == 34)) (not (c == 92)) p.0 in
    on q.0 q.1 (or_cases (nat_le 32 c) (c == 9) p.1)
  where
    goes : not (c == 34) ≡ true → not (c == 92) ≡ true → (c ≡ 10 → ⊥) → (c ≡ 13 → ⊥) → (nat_lt c 32 && not (c == 9)) ≡ false → turn_plain at c ≡ Ok (Some plain)
    goes a b x y z =
        if_false (c == 34) _ _ _ (not-true (c == 34) a) (if_false (c == 92) _ _ _ (not-true (c == 92) b)
        (if_false (c == 10 || c == 13) _ _ _ (or_from (c == 10) (c == 13) (ne_eqb c 10 x) (ne_eqb c 13 y)) (if_false (nat_lt c 32 && not (c == 9)) _ _ _ z refl)))

    on : not (c == 34) ≡ true → not (c == 92) ≡ true → (nat_le 32 c ≡ true) ⊎ ((c == 9) ≡ true) → turn_plain at c ≡ Ok (Some plain)
    on a b (inl l) = let m = leb-true 32 c l in goes a b (λ e. omega arith) (λ e. omega arith) (and_left (nat_lt c 32) (not (c == 9)) (le-ltb c 32 m))
    on a b (inr l) = let m = eqb-true c 9 l in goes a b (λ e. omega arith) (λ e. omega arith) (and_right (nat_lt c 32) (not (c == 9)) (ap not l))

-- a turn and what follows
pub goes_to : (m k : Mode) (at : SourcePosition) (c : ℕ) (cs : List ℕ) → turn m at c cs ≡ Ok (Some k) → string_from m at (c ∷ cs) ≡ string_from k (step at c) cs
goes_to m k at c cs e = ap (λ r. turned r (here at (c ∷ cs)) (λ j. string_from j (step at c) cs)) e

in_range : (low high c : ℕ) → low ≤ c → c ≤ high → is_in_range low high c ≡ true
in_range low high c l m = and_from (nat_le low c) (nat_le c high) (le-leb low c l) (le-leb c high m)

hex_is_letter : (c : ℕ) → is_ascii_hexdigit c ≡ true → is_ascii_alphanumeric c ≡ true
hex_is_letter c h = elim (or_cases (is_in_range 48 57 c || is_in_range 65 70 c) (is_in_range 97 102 c) h) [
  | inl x ↦ elim (or_cases (is_in_range 48 57 c) (is_in_range 65 70 c) x) [
    | inl y ↦ or_left (is_in_range 48 57 c || is_in_range 65 90 c) (is_in_range 97 122 c) (or_left (is_in_range 48 57 c) (is_in_range 65 90 c) y)
    | inr y ↦ let r = range_of 65 70 c y in or_left (is_in_range 48 57 c || is_in_range 65 90 c) (is_in_range 97 122 c) (or_right (is_in_range 48 57 c) (is_in_range 65 90 c) (in_range 65 90 c r.0 (omega arith)))
  ]
  | inr x ↦ let r = range_of 97 102 c x in or_right (is_in_range 48 57 c || is_in_range 65 90 c) (is_in_range 97 122 c) (in_range 97 122 c r.0 (omega arith))
]

code_goes : (from : Place) (n : ℕ) (at : SourcePosition) (c : ℕ) (cs : List ℕ) → is_ascii_hexdigit c ≡ true → nat_lt n 3 ≡ true → string_from (code from n) at (c ∷ cs) ≡ string_from (code from (n + 1)) (step at c) cs
unfolding turn turn_code
code_goes from n at c cs h l = goes_to (code from n) (code from (n + 1)) at c cs (if_true (is_ascii_alphanumeric c) _ _ _ (hex_is_letter c h) (if_true (nat_lt n 3) _ _ _ l refl))

code_ends : (from : Place) (at : SourcePosition) (c : ℕ) (cs : List ℕ) → is_ascii_hexdigit c ≡ true → is_code from.rest ≡ true → string_from (code from 3) at (c ∷ cs) ≡ string_from plain (step at c) cs
unfolding turn turn_code
code_ends from at c cs h l = goes_to (code from 3) plain at c cs (if_true (is_ascii_alphanumeric c) _ _ _ (hex_is_letter c h) (if_true (is_code from.rest) _ _ _ l refl))

piece_goes : (at : SourcePosition) (x : Piece) (rest : List ℕ) → IsPiece x → string_from plain at (spelling x ++ rest) ≡ string_from plain (advance at (spelling x)) rest
unfolding turn turn_plain turn_escape
piece_goes at (character c) rest h = goes_to plain plain at c rest (plain_goes at c h)
piece_goes at (escaped c) rest h =
    goes_to plain escape at 92 (c ∷ rest) refl ∙ goes_to escape plain (step at 92) c rest (if_true (is_escape c) _ _ _ h refl)
piece_goes at (grammar.code a b c d) rest h =
    let more = a ∷ b ∷ c ∷ d ∷ rest in
    let from = here (step at 92) (117 ∷ more) in
    let two = step (step at 92) 117 in
    let good : is_code (117 ∷ more) ≡ true = true_from_ne_false (is_code (117 ∷ more)) (λ e. is_code_false a b c d rest e h) in
    goes_to plain escape at 92 (117 ∷ more) refl
    ∙ goes_to escape (code from 0) (step at 92) 117 more refl
    ∙ code_goes from 0 two a (b ∷ c ∷ d ∷ rest) h.0.0 refl
    ∙ code_goes from 1 (step two a) b (c ∷ d ∷ rest) h.0.1.0 refl
    ∙ code_goes from 2 (step (step two a) b) c (d ∷ rest) h.0.1.1.0 refl
    ∙ code_ends from (step (step (step two a) b) c) d rest h.0.1.1.1.0 good

pub pieces_go : (at : SourcePosition) (xs : List Piece) (rest : List ℕ) → ArePieces xs → string_from plain at (spellings xs ++ rest) ≡ string_from plain (advance at (spellings xs)) rest
pieces_go at [] rest h = refl
pieces_go at (x ∷ xs) rest h =
    ap (string_from plain at) (append_assoc (spelling x) (spellings xs) rest)
    ∙ piece_goes at x (spellings xs ++ rest) h.0
    ∙ pieces_go (advance at (spelling x)) xs rest h.1
    ∙ ap (λ z. string_from plain z rest) (sym (advance-append at (spelling x) (spellings xs)))

quote_ends : (at : SourcePosition) (rest : List ℕ) → string_from plain at (34 ∷ rest) ≡ Ok (here at (34 ∷ rest))
unfolding turn turn_plain
quote_ends at rest = refl

pub string_is : (at : SourcePosition) (text rest : List ℕ) → IsStringText text → string (here at (text ++ 34 ∷ rest)) ≡ Ok (Scalar (String (encode_utf8_all text)), here (step (advance at text) 34) rest)
unfolding string past_one
string_is at text rest t =
    let P : List ℕ → Type 0 = λ z. string_from plain at (z ++ 34 ∷ rest) ≡ string_from plain (advance at z) (34 ∷ rest) in
    let closes : string_from plain at (text ++ 34 ∷ rest) ≡ Ok (behind at text (34 ∷ rest)) = subst P (sym t.is) (pieces_go at t.pieces (34 ∷ rest) t.are) ∙ quote_ends (advance at text) rest in
    let answer : Place → Result (Token × Place) Refusal = λ q. Ok (Scalar (String (encode_utf8_all (between (text ++ 34 ∷ rest) q.rest))), past_one class.Quote q) in
    let T : List ℕ → Result (Token × Place) Refusal = λ z. Ok (Scalar (String (encode_utf8_all z)), here (step (advance at text) 34) rest) in
    ap (λ r. r >>= answer) closes ∙ ap T (between_front (text ++ 34 ∷ rest) text (34 ∷ rest) refl)

-- ---- what is ignored

-- a comment, up to where it ends
comment_goes : (at : SourcePosition) (cs rest : List ℕ) → Each (is_in class.Comment) cs → NextIsNot (is_in class.Comment) rest → ahead_from true at (cs ++ rest) ≡ ahead_from false (advance at cs) rest
comment_goes at [] [] e n = refl
comment_goes at [] (d ∷ ds) e n =
    let F : Bool → Place = λ b. cond (b || d == 35 || is_in class.Ignored d) (ahead_from (b || d == 35) (step at d) ds) (here at (d ∷ ds)) in
    ap F n
comment_goes at (c ∷ cs) rest e n =
    let F : Bool → Place = λ b. cond (b || c == 35 || is_in class.Ignored c) (ahead_from (b || c == 35) (step at c) (cs ++ rest)) (here at (c ∷ (cs ++ rest))) in
    ap F e.0 ∙ comment_goes (step at c) cs rest e.1 n

blank_is_no_start : (c : ℕ) → is_in class.Ignored c ≡ true → (c == 35) ≡ false
blank_is_no_start c h = ne_eqb c 35 (λ e. let k : is_in class.Ignored c ≡ false = ap (is_in class.Ignored) e in cc)

gap_ends : (at : SourcePosition) (rest : List ℕ) → NextIsNot (λ c. is_in class.Ignored c || c == 35) rest → ahead_from false at rest ≡ here at rest
gap_ends at [] n = refl
gap_ends at (c ∷ cs) n =
    let p = or_parts (is_in class.Ignored c) (c == 35) n in
    if_false (c == 35 || is_in class.Ignored c) _ _ _ (or_from (c == 35) (is_in class.Ignored c) p.1 p.0) refl

gap_goes : (at : SourcePosition) (xs : List Ignored) (rest : List ℕ) → AreIgnored xs rest → NextIsNot (λ c. is_in class.Ignored c || c == 35) rest → ahead_from false at (gap_of xs ++ rest) ≡ behind at (gap_of xs) rest
gap_goes at [] rest a n = gap_ends at rest n
gap_goes at (blank c ∷ xs) rest a n =
    let F : Bool → Place = λ b. cond (b || is_in class.Ignored c) (ahead_from b (step at c) (gap_of xs ++ rest)) (here at (c ∷ (gap_of xs ++ rest))) in
    ap F (blank_is_no_start c a.0) ∙ if_true (is_in class.Ignored c) _ _ _ a.0 (gap_goes (step at c) xs rest a.1 n)
gap_goes at (comment cs ∷ xs) rest a n =
    ap (λ z. ahead_from true (step at 35) z) (append_assoc cs (gap_of xs) rest)
    ∙ comment_goes (step at 35) cs (gap_of xs ++ rest) a.0 a.1
    ∙ gap_goes (advance (step at 35) cs) xs rest a.2 n
    ∙ ap (λ z. here z rest) (sym (advance-append (step at 35) cs (gap_of xs)))

pub ahead_is : (p : Place) (gap rest : List ℕ) → IsGap gap rest → p.rest ≡ gap ++ rest → ahead p ≡ behind p.at gap rest
unfolding ahead
ahead_is p gap rest g e =
    let P : List ℕ → Type 0 = λ z. ahead_from false p.at (z ++ rest) ≡ behind p.at z rest in
    ap (ahead_from false p.at) e ∙ subst P (sym g.is) (gap_goes p.at g.ignored rest g.are g.no_more)

-- ---- tokens

-- the first character of a number
abbrev pub NumberHead : List ℕ → Type 0
NumberHead [] = ⊥
NumberHead (c ∷ cs) = (is_ascii_digit c || c == 45) ≡ true

pub integer_head : (cs rest : List ℕ) → IsInteger cs → NumberHead (cs ++ rest)
integer_head cs rest i = let P : List ℕ → Type 0 = λ z. NumberHead (z ++ rest) in subst P (sym i.is) (on i.sign i.whole i.sign_is i.whole_is)
  where
    whole_head : (w : List ℕ) → IsWhole w → NumberHead (w ++ rest)
    whole_head w (inl e) = let P : List ℕ → Type 0 = λ z. NumberHead (z ++ rest) in subst P (sym e) refl
    whole_head [] (inr d) = absurd d.0
    whole_head (c ∷ w) (inr d) = or_left (is_ascii_digit c) (c == 45) d.0.0

    on : (s w : List ℕ) → IsOptional class.Minus s → IsWhole w → NumberHead ((s ++ w) ++ rest)
    on s w (inl e) x = let P : List ℕ → Type 0 = λ z. NumberHead ((z ++ w) ++ rest) in subst P (sym e) (whole_head w x)
    on s w (inr (c, m, e)) x = let P : List ℕ → Type 0 = λ z. NumberHead ((z ++ w) ++ rest) in subst P (sym e) (or_right (is_ascii_digit c) (c == 45) m)

number_head_no_name : (c : ℕ) → (is_ascii_digit c || c == 45) ≡ true → is_in class.NameStart c ≡ false
number_head_no_name c h = elim (or_cases (is_ascii_digit c) (c == 45) h) [
  | inl d ↦ let r = range_of 48 57 c d in or_from (c == 95) (is_ascii_alphabetic c) (ne_eqb c 95 (λ e. omega arith)) (or_from (is_in_range 65 90 c) (is_in_range 97 122 c) (and_left (nat_le 65 c) (nat_le c 90) (lt-leb 65 c (omega arith))) (and_left (nat_le 97 c) (nat_le c 122) (lt-leb 97 c (omega arith))))
  | inr e ↦ ap (is_in class.NameStart) (eqb-true c 45 e)
]

pub token_by_number : (at : SourcePosition) (cs : List ℕ) → NumberHead cs → token (here at cs) ≡ number (here at cs)
unfolding token
token_by_number at [] h = absurd h
token_by_number at (c ∷ cs) h = if_false (is_in class.NameStart c) _ _ _ (number_head_no_name c h) (if_true (is_ascii_digit c || c == 45) _ _ _ h refl)

name_is : (at : SourcePosition) (cs rest : List ℕ) → IsName cs → NextIsNot (is_in class.NameContinue) rest → token (here at (cs ++ rest)) ≡ Ok (Name (encode_utf8_all cs), behind at cs rest)
unfolding token name_from
name_is at [] rest n e = absurd n
name_is at (c ∷ cs) rest n e =
    let F : Place → Result (Token × Place) Refusal = λ q. Ok (Name (encode_utf8_all (between (c ∷ (cs ++ rest)) q.rest)), q) in
    let T : List ℕ → Result (Token × Place) Refusal = λ z. Ok (Name (encode_utf8_all z), behind (step at c) cs rest) in
    if_true (is_in class.NameStart c) _ _ _ n.0 (ap F (past_is class.NameContinue (step at c) cs rest n.1 e) ∙ ap T (between_front (c ∷ (cs ++ rest)) (c ∷ cs) rest refl))

quoted_is : (at : SourcePosition) (cs text rest : List ℕ) → IsQuoted cs text → token (here at (cs ++ rest)) ≡ Ok (Scalar (String (encode_utf8_all text)), behind at cs rest)
unfolding token
quoted_is at cs text rest q =
    let P : List ℕ → Type 0 = λ z. token (here at (z ++ rest)) ≡ Ok (Scalar (String (encode_utf8_all text)), behind at z rest) in
    let T : SourcePosition → Result (Token × Place) Refusal = λ z. Ok (Scalar (String (encode_utf8_all text)), here z rest) in
    subst P (sym q.is) (ap (λ z. string (here (step at 34) z)) (append_assoc text (34 ∷ []) rest) ∙ string_is (step at 34) text rest q.text_is ∙ ap T (sym (advance-append (step at 34) text (34 ∷ []))))

-- the answer that a token's characters have
abbrev Answers : SourcePosition → List ℕ → Token → List ℕ → Type 0
Answers at rest t z = token (here at (z ++ rest)) ≡ Ok (t, behind at z rest)

with_text : (at : SourcePosition) (cs rest : List ℕ) (f : List ℕ → Token) (s u : List ℕ) → s ≡ u → token (here at (cs ++ rest)) ≡ Ok (f u, behind at cs rest) → token (here at (cs ++ rest)) ≡ Ok (f s, behind at cs rest)
with_text at cs rest f s u e h = h ∙ ap (λ z. Ok (f z, behind at cs rest)) (sym e)

pub token_is : (at : SourcePosition) (t : Token) (cs rest : List ℕ) → Spells t cs → Ends t cs rest → token (here at (cs ++ rest)) ≡ Ok (t, behind at cs rest)
unfolding token ellipsis point
token_is at (Name s) cs rest h e = with_text at cs rest (λ z. Name z) s (encode_utf8_all cs) h.1 (name_is at cs rest h.0 e)
token_is at (Scalar (Int s)) cs rest h e =
    with_text at cs rest (λ z. Scalar (Int z)) s (encode_utf8_all cs) h.1 (token_by_number at (cs ++ rest) (integer_head cs rest h.0) ∙ int_is at cs rest h.0 e.0 e.1 e.2)
token_is at (Scalar (Float s)) cs rest h e =
    let f = h.0 in
    let P : List ℕ → Type 0 = λ z. NumberHead z in
    let head : NumberHead (cs ++ rest) = subst P (sym (ap (λ z. z ++ rest) f.is ∙ append_assoc f.integer (f.fraction ++ f.exponent) rest)) (integer_head f.integer ((f.fraction ++ f.exponent) ++ rest) f.integer_is) in
    with_text at cs rest (λ z. Scalar (Float z)) s (encode_utf8_all cs) h.1 (token_by_number at (cs ++ rest) head ∙ float_is at cs rest f e.0 e.1)
token_is at (Scalar (String s)) cs rest h e = with_text at cs rest (λ z. Scalar (String z)) s (encode_utf8_all h.0) h.2 (quoted_is at cs h.0 rest h.1)
token_is at ExclamationMark cs rest h e = subst (Answers at rest ExclamationMark) (sym h) refl
token_is at Dollar cs rest h e = subst (Answers at rest Dollar) (sym h) refl
token_is at ParenOpen cs rest h e = subst (Answers at rest ParenOpen) (sym h) refl
token_is at ParenClose cs rest h e = subst (Answers at rest ParenClose) (sym h) refl
token_is at BracketOpen cs rest h e = subst (Answers at rest BracketOpen) (sym h) refl
token_is at BracketClose cs rest h e = subst (Answers at rest BracketClose) (sym h) refl
token_is at CurlyOpen cs rest h e = subst (Answers at rest CurlyOpen) (sym h) refl
token_is at CurlyClose cs rest h e = subst (Answers at rest CurlyClose) (sym h) refl
token_is at Ellipsis cs rest h e = subst (Answers at rest Ellipsis) (sym h) refl
token_is at Colon cs rest h e = subst (Answers at rest Colon) (sym h) refl
token_is at Equals cs rest h e = subst (Answers at rest Equals) (sym h) refl
token_is at At cs rest h e = subst (Answers at rest At) (sym h) refl
token_is at Pipe cs rest h e = subst (Answers at rest Pipe) (sym h) refl
token_is at EndOfFile cs rest h e =
    let P : List ℕ → Type 0 = λ z. token (here at (z ++ rest)) ≡ Ok (EndOfFile, behind at z rest) in
    let Q : List ℕ → Type 0 = λ z. token (here at z) ≡ Ok (EndOfFile, here at z) in
    subst P (sym h) (subst Q (sym e) refl)

-- ---- whole texts

pub cut_is : (before rest : List ℕ) (t : Located) (after more : List ℕ) → Heads before rest t after more → cut (here (advance origin before) rest) ≡ Ok (t, here (advance origin after) more)
unfolding cut
cut_is before rest t after more h =
    let p = here (advance origin before) rest in
    let a : ahead p ≡ behind p.at h.gap (h.own ++ more) = ahead_is p h.gap (h.own ++ more) h.gap_is h.is in
    let k : token (behind p.at h.gap (h.own ++ more)) ≡ Ok (t.item, behind (advance p.at h.gap) h.own more) = token_is (advance p.at h.gap) t.item h.own more h.spells h.ends in
    let start : advance p.at h.gap ≡ t.span.start = sym (advance-append origin before h.gap) ∙ advance_origin (before ++ h.gap) ∙ sym h.start in
    let end : advance (advance p.at h.gap) h.own ≡ advance origin after = ap (λ z. advance z h.own) (sym (advance-append origin before h.gap)) ∙ sym (advance-append origin (before ++ h.gap) h.own) ∙ ap (advance origin) (sym h.after_is) in
    let stop : advance origin after ≡ t.span.end = advance_origin after ∙ sym h.end in
    let answer : Place → (Token × Place) → Result (Located × Place) Refusal = λ s r. Ok (record { item = r.0; span = record { start = s.at; end = r.1.at } }, r.1) in
    let T : SourcePosition → SourcePosition → Result (Located × Place) Refusal = λ s e. Ok (record { item = t.item; span = record { start = s; end = e } }, here e more) in
    let U : SourcePosition → Result (Located × Place) Refusal = λ e. Ok (record { item = t.item; span = record { start = t.span.start; end = e } }, here (advance origin after) more) in
    ap (λ s. token s >>= answer s) a
    ∙ ap (λ r. r >>= answer (behind p.at h.gap (h.own ++ more))) k
    ∙ ap (λ s. T s (advance (advance p.at h.gap) h.own)) start
    ∙ ap (T t.span.start) end
    ∙ ap U stop

pub runs_of : (before rest : List ℕ) (ts : List Located) (after more : List ℕ) → Divides before rest ts after more → Runs (here (advance origin before) rest) ts (here (advance origin after) more)
runs_of before rest [] after more d = ap (λ z. here (advance origin z) rest) d.0 ∙ ap (here (advance origin after)) d.1
runs_of before rest (t ∷ ts) after more (middle, others, h, goes, d) = (here (advance origin middle) others, cut_is before rest t middle others h, goes, runs_of middle others ts after more d)

pub divided_tokens : (text : List ℕ) (ts : List Located) → IsDivided text ts → Tokens text ts
divided_tokens text ts d = record {
  front = d.front;
  last = d.last;
  is = d.is;
  before = here (advance origin d.before) d.rest;
  after = here (advance origin text) [];
  runs = runs_of [] text d.front d.before d.rest d.divides;
  ends = cut_is d.before d.rest d.last text [] d.heads;
  end = d.end;
}
