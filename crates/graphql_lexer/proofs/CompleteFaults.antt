-- A fault of the grammar is answered.
use Rattle.std.proofs.Common.{◌≡◌, ◌≢◌, ◌⊎◌, inl, inr, ℕ, ◌+◌, ◌≤◌, ◌<◌, true, false, cond, not, nat_lt, ◌&&◌, ◌||◌, ◌==◌, List, [], ◌∷◌, ◌++◌, length, suc, sym, subst, ap, ◌∙◌, refl, Result, Ok, Err, append_assoc, encode_utf8_all, arith}
use Rattle.std.proofs.lemmas.List.{append-nil}
use Rattle.std.proofs.lemmas.Bool.{lt-ltb, and_from, or_from, or_right, ne_eqb, false_from_ne_true}
use Rattle.std.specs.Char.{is_ascii_digit, is_ascii_alphanumeric}
use Rattle.graphql_text.specs.declared.position.SourcePosition.{SourcePosition}
use Rattle.graphql_text.specs.declared.token.LexerError.{LexerError}
use Rattle.graphql_text.specs.declared.token.LexerError.TheVariants.{UnknownCharacter, UnexpectedCharacter, UnterminatedString, UnknownCharacterInString, UnknownEscapeSequence, UnexpectedEndOfFile, InvalidNumber, Memory}
use Rattle.graphql_text.specs.declared.class.Class.TheVariants as class
use Rattle.graphql_text.specs.Position.{origin, step, position_of}
use Rattle.graphql_text.specs.Reading.{Place, Refusal, ◌>>=◌, is_in, begins, past_one, between}
use Rattle.graphql_text.specs.Numbers.{digits, no_digit, whole, fraction, exponent, number}
use Rattle.graphql_text.specs.Strings.{is_escape, is_code, Mode, plain, escape, code, turn_plain, turn_escape, turn_code, turn, turned, string_from, string}
use Rattle.graphql_text.specs.Tokens.{punctuated, ellipsis, point, token, ahead, cut, FirstFault}
use Rattle.graphql_text.specs.Grammar.{Each, NextIs, NextIsNot, IsOptional, IsFraction, IsMantissa, IsStringText, IsCode, LacksDigit, NeedsDigit, IsZero, ArePoints, IsBadEscape, BeginsNone, IsFault, IsBroken}
use Rattle.graphql_lexer.proofs.TextLemmas.{between_front}
use Rattle.graphql_lexer.proofs.Leading.{advance, advance-append}
use Rattle.graphql_lexer.proofs.SoundStrings.{is_code_true}
use Rattle.graphql_lexer.proofs.SoundTexts.{advance_origin}
use Rattle.graphql_lexer.proofs.CompleteNumbers.{if_true, if_false, behind, here, integer_read, fraction_is, fraction_none, past_one_is, past_optional, fraction_no_digit, letter_no_digit, letter_no_point}
use Rattle.graphql_lexer.proofs.CompleteTokens.{goes_to, pieces_go, ahead_is, NumberHead, integer_head, token_by_number, runs_of}

-- a fault at a place
abbrev pub stop : LexerError → SourcePosition → Refusal
stop e at = record { item = e; span = record { start = at; end = at } }

err_then : {A B : Type 0} (r : Result A Refusal) (f : Refusal) (k : A → Result B Refusal) → r ≡ Err f → (r >>= k) ≡ Err f
err_then r f k e = ap (λ r. r >>= k) e

ok_then : {A B : Type 0} (r : Result A Refusal) (x : A) (k : A → Result B Refusal) → r ≡ Ok x → (r >>= k) ≡ k x
ok_then r x k e = ap (λ r. r >>= k) e

-- ---- numbers

digits_lacks : (e : LexerError) (at : SourcePosition) (rest : List ℕ) → LacksDigit e rest → digits (here at rest) ≡ Err (stop e at)
unfolding digits
digits_lacks (UnexpectedCharacter c) at [] l = absurd l.0
digits_lacks (UnexpectedCharacter c) at (d ∷ ds) l = if_false (is_ascii_digit d) _ _ _ (ap is_ascii_digit (sym l.0) ∙ l.1) (ap (λ z. Err (stop (UnexpectedCharacter z) at)) (sym l.0))
digits_lacks UnexpectedEndOfFile at rest l = let P : List ℕ → Type 0 = λ z. digits (here at z) ≡ Err (stop UnexpectedEndOfFile at) in subst P (sym l) refl
digits_lacks (UnknownCharacter c) at rest l = absurd l
digits_lacks UnterminatedString at rest l = absurd l
digits_lacks (UnknownCharacterInString c) at rest l = absurd l
digits_lacks (UnknownEscapeSequence t) at rest l = absurd l
digits_lacks InvalidNumber at rest l = absurd l
digits_lacks Memory at rest l = absurd l

no_zero : (d : ℕ) → is_ascii_digit d ≡ false → (d == 48) ≡ false
no_zero d h = ne_eqb d 48 (λ e. let k : is_ascii_digit d ≡ true = ap is_ascii_digit e in cc)

whole_lacks : (e : LexerError) (at : SourcePosition) (rest : List ℕ) → LacksDigit e rest → whole (here at rest) ≡ Err (stop e at)
unfolding whole
whole_lacks (UnexpectedCharacter c) at [] l = absurd l.0
whole_lacks (UnexpectedCharacter c) at (d ∷ ds) l = if_false (d == 48) _ _ _ (no_zero d (ap is_ascii_digit (sym l.0) ∙ l.1)) (digits_lacks (UnexpectedCharacter c) at (d ∷ ds) l)
whole_lacks UnexpectedEndOfFile at rest l = let P : List ℕ → Type 0 = λ z. whole (here at z) ≡ Err (stop UnexpectedEndOfFile at) in subst P (sym l) refl
whole_lacks (UnknownCharacter c) at rest l = absurd l
whole_lacks UnterminatedString at rest l = absurd l
whole_lacks (UnknownCharacterInString c) at rest l = absurd l
whole_lacks (UnknownEscapeSequence t) at rest l = absurd l
whole_lacks InvalidNumber at rest l = absurd l
whole_lacks Memory at rest l = absurd l

fails_at_whole : (p : Place) (f : Refusal) → whole (past_one class.Minus p) ≡ Err f → number p ≡ Err f
unfolding number
fails_at_whole p f e = err_then (whole (past_one class.Minus p)) f _ e

fails_at_fraction : (p w : Place) (f : Refusal) → whole (past_one class.Minus p) ≡ Ok w → fraction w ≡ Err f → number p ≡ Err f
unfolding number
fails_at_fraction p w f e g = ok_then (whole (past_one class.Minus p)) w _ e ∙ err_then (fraction w) f _ g

fails_at_exponent : (p w x : Place) (f : Refusal) → whole (past_one class.Minus p) ≡ Ok w → fraction w ≡ Ok x → exponent x ≡ Err f → number p ≡ Err f
unfolding number
fails_at_exponent p w x f e g h = ok_then (whole (past_one class.Minus p)) w _ e ∙ ok_then (fraction w) x _ g ∙ err_then (exponent x) f _ h

minus_lacks : (e : LexerError) (at : SourcePosition) (rest : List ℕ) → LacksDigit e rest → number (here at (45 ∷ rest)) ≡ Err (stop e (step at 45))
unfolding past_one
minus_lacks e at rest l = fails_at_whole (here at (45 ∷ rest)) (stop e (step at 45)) (whole_lacks e (step at 45) rest l)

point_lacks : (e : LexerError) (at : SourcePosition) (rest : List ℕ) → LacksDigit e rest → fraction (here at (46 ∷ rest)) ≡ Err (stop e (step at 46))
unfolding fraction begins past_one
point_lacks e at rest l = digits_lacks e (step at 46) rest l

exponent_lacks : (e : LexerError) (at : SourcePosition) (letter : ℕ) (sign rest : List ℕ) → is_in class.Exponent letter ≡ true → IsOptional class.Sign sign → ((sign ≡ []) → NextIsNot (is_in class.Sign) rest) → LacksDigit e rest → exponent (here at (letter ∷ (sign ++ rest))) ≡ Err (stop e (advance (step at letter) sign))
unfolding exponent begins
exponent_lacks e at letter sign rest h s n l =
    let one = past_one_is class.Exponent at letter (sign ++ rest) h in
    if_true (is_in class.Exponent letter) _ _ _ h (ap (λ z. digits (past_one class.Sign z)) one ∙ ap digits (two s) ∙ digits_lacks e (advance (step at letter) sign) rest l)
  where
    two : IsOptional class.Sign sign → past_one class.Sign (here (step at letter) (sign ++ rest)) ≡ behind (step at letter) sign rest
    two (inl z) = past_optional class.Sign (step at letter) sign rest (inl z) (n z)
    two (inr (c, m, z)) = let P : List ℕ → Type 0 = λ v. past_one class.Sign (here (step at letter) (v ++ rest)) ≡ behind (step at letter) v rest in subst P (sym z) (past_one_is class.Sign (step at letter) c rest m)

-- the mantissa of a number, read
mantissa_head : (m rest : List ℕ) → IsMantissa m → NumberHead (m ++ rest)
mantissa_head m rest x =
    let P : List ℕ → Type 0 = λ z. NumberHead z in
    subst P (sym (ap (λ z. z ++ rest) x.is ∙ append_assoc x.integer x.fraction rest)) (integer_head x.integer (x.fraction ++ rest) x.integer_is)

lacks_digit : (e : LexerError) (at : SourcePosition) (cs rest : List ℕ) → NeedsDigit cs rest → LacksDigit e rest → token (here at (cs ++ rest)) ≡ Err (stop e (advance at cs))
lacks_digit e at cs rest (inl z) l =
    let P : List ℕ → Type 0 = λ v. token (here at (v ++ rest)) ≡ Err (stop e (advance at v)) in
    subst P (sym z) (token_by_number at (45 ∷ rest) refl ∙ minus_lacks e at rest l)
lacks_digit e at cs rest (inr (inl (integer, i, z))) l =
    let W = i.sign ++ i.whole in
    let apart : cs ++ rest ≡ W ++ (46 ∷ rest) = ap (λ v. v ++ rest) (z ∙ ap (λ v. v ++ 46 ∷ []) i.is) ∙ append_assoc W (46 ∷ []) rest in
    let head : NumberHead (cs ++ rest) = let P : List ℕ → Type 0 = λ v. NumberHead v in subst P (sym (ap (λ v. v ++ rest) z ∙ append_assoc integer (46 ∷ []) rest)) (integer_head integer (46 ∷ rest) i) in
    let at_point : stop e (step (advance at W) 46) ≡ stop e (advance at cs) = ap (stop e) (sym (advance-append at W (46 ∷ [])) ∙ ap (advance at) (sym (z ∙ ap (λ v. v ++ 46 ∷ []) i.is))) in
    let ok : whole (past_one class.Minus (here at (cs ++ rest))) ≡ Ok (behind at W (46 ∷ rest)) = ap (λ v. whole (past_one class.Minus (here at v))) apart ∙ integer_read at i.sign i.whole (46 ∷ rest) i.sign_is i.whole_is refl in
    token_by_number at (cs ++ rest) head ∙ fails_at_fraction (here at (cs ++ rest)) (behind at W (46 ∷ rest)) (stop e (step (advance at W) 46)) ok (point_lacks e (advance at W) rest l) ∙ ap Err at_point
lacks_digit e at cs rest (inr (inr n)) l =
    let m = n.mantissa_is in
    let i = m.integer_is in
    let W = i.sign ++ i.whole in
    let f = m.fraction in
    let tail = n.letter ∷ (n.sign ++ rest) in
    let all : cs ≡ (W ++ f) ++ (n.letter ∷ n.sign) = n.is ∙ ap (λ v. v ++ (n.letter ∷ n.sign)) (m.is ∙ ap (λ v. v ++ f) i.is) in
    let apart : cs ++ rest ≡ W ++ (f ++ tail) = ap (λ v. v ++ rest) all ∙ append_assoc (W ++ f) (n.letter ∷ n.sign) rest ∙ append_assoc W f tail in
    let head : NumberHead (cs ++ rest) = let P : List ℕ → Type 0 = λ v. NumberHead v in subst P (sym (ap (λ v. v ++ rest) n.is ∙ append_assoc n.mantissa (n.letter ∷ n.sign) rest)) (mantissa_head n.mantissa tail m) in
    let ok : whole (past_one class.Minus (here at (cs ++ rest))) ≡ Ok (behind at W (f ++ tail)) = ap (λ v. whole (past_one class.Minus (here at v))) apart ∙ integer_read at i.sign i.whole (f ++ tail) i.sign_is i.whole_is (no_digits f m.fraction_is tail (letter_no_digit n.letter n.letter_is)) in
    let last : stop e (advance (step (advance at (W ++ f)) n.letter) n.sign) ≡ stop e (advance at cs) = ap (stop e) (sym (advance-append at (W ++ f) (n.letter ∷ n.sign)) ∙ ap (advance at) (sym all)) in
    token_by_number at (cs ++ rest) head
    ∙ fails_at_exponent (here at (cs ++ rest)) (behind at W (f ++ tail)) (behind at (W ++ f) tail) (stop e (advance (step (advance at (W ++ f)) n.letter) n.sign)) ok (fraction_done W f m.fraction_is n.letter (n.sign ++ rest) n.letter_is) (exponent_lacks e (advance at (W ++ f)) n.letter n.sign rest n.letter_is n.sign_is n.no_sign l)
    ∙ ap Err last
  where
    no_digits : (f : List ℕ) → (f ≡ []) ⊎ IsFraction f → (tail : List ℕ) → NextIsNot is_ascii_digit tail → NextIsNot is_ascii_digit (f ++ tail)
    no_digits f (inl z) tail h = let P : List ℕ → Type 0 = λ v. NextIsNot is_ascii_digit (v ++ tail) in subst P (sym z) h
    no_digits f (inr z) tail h = fraction_no_digit f tail z

    fraction_done : (W f : List ℕ) → (f ≡ []) ⊎ IsFraction f → (c : ℕ) (cs : List ℕ) → is_in class.Exponent c ≡ true → fraction (behind at W (f ++ (c ∷ cs))) ≡ Ok (behind at (W ++ f) (c ∷ cs))
    fraction_done W f (inl z) c cs h =
        let Q : List ℕ → Type 0 = λ v. fraction (behind at W (v ++ (c ∷ cs))) ≡ Ok (behind at (W ++ v) (c ∷ cs)) in
        subst Q (sym z) (fraction_none (advance at W) (c ∷ cs) (letter_no_point c h) ∙ ap (λ v. Ok (behind at v (c ∷ cs))) (sym (append-nil W)))
    fraction_done W f (inr z) c cs h = fraction_is (advance at W) f (c ∷ cs) z (letter_no_digit c h) ∙ ap (λ v. Ok (here v (c ∷ cs))) (sym (advance-append at W f))

zero_fails : (at : SourcePosition) (cs rest : List ℕ) (c : ℕ) → IsZero cs → NextIs c rest → is_ascii_digit c ≡ true → token (here at (cs ++ rest)) ≡ Err (stop (UnexpectedCharacter c) (advance at cs))
unfolding whole no_digit
zero_fails at cs [] c z n d = absurd n
zero_fails at cs (x ∷ xs) c (s, s_is, z) n d =
    let apart : cs ++ (x ∷ xs) ≡ s ++ (48 ∷ x ∷ xs) = ap (λ v. v ++ (x ∷ xs)) z ∙ append_assoc s (48 ∷ []) (x ∷ xs) in
    let one : past_one class.Minus (here at (cs ++ (x ∷ xs))) ≡ behind at s (48 ∷ x ∷ xs) = ap (λ v. past_one class.Minus (here at v)) apart ∙ past_optional class.Minus at s (48 ∷ x ∷ xs) s_is refl in
    let digit : is_ascii_digit x ≡ true = ap is_ascii_digit (sym n) ∙ d in
    let where_ : stop (UnexpectedCharacter x) (step (advance at s) 48) ≡ stop (UnexpectedCharacter c) (advance at cs) = ap (λ v. stop (UnexpectedCharacter v) (step (advance at s) 48)) (sym n) ∙ ap (stop (UnexpectedCharacter c)) (sym (advance-append at s (48 ∷ [])) ∙ ap (advance at) (sym z)) in
    let head : NumberHead (cs ++ (x ∷ xs)) = let P : List ℕ → Type 0 = λ v. NumberHead v in subst P (sym apart) (zero_head s s_is) in
    token_by_number at (cs ++ (x ∷ xs)) head ∙ fails_at_whole (here at (cs ++ (x ∷ xs))) (stop (UnexpectedCharacter x) (step (advance at s) 48)) (ap whole one ∙ whole_zero (advance at s) x xs digit) ∙ ap Err where_
  where
    zero_head : (s : List ℕ) → IsOptional class.Minus s → NumberHead (s ++ (48 ∷ x ∷ xs))
    zero_head s (inl e) = let P : List ℕ → Type 0 = λ v. NumberHead (v ++ (48 ∷ x ∷ xs)) in subst P (sym e) refl
    zero_head s (inr (m, h, e)) = let P : List ℕ → Type 0 = λ v. NumberHead (v ++ (48 ∷ x ∷ xs)) in subst P (sym e) (or_right (is_ascii_digit m) (m == 45) h)

    whole_zero : (at : SourcePosition) (x : ℕ) (xs : List ℕ) → is_ascii_digit x ≡ true → whole (here at (48 ∷ x ∷ xs)) ≡ Err (stop (UnexpectedCharacter x) (step at 48))
    whole_zero at x xs h = if_true (is_ascii_digit x) _ _ _ h refl

-- ---- points and unknown characters

points_end : (at : SourcePosition) (cs rest : List ℕ) → ArePoints cs → rest ≡ [] → token (here at (cs ++ rest)) ≡ Err (stop UnexpectedEndOfFile (advance at cs))
unfolding token ellipsis point
points_end at cs rest (inl p) e =
    let P : List ℕ → Type 0 = λ v. token (here at (v ++ rest)) ≡ Err (stop UnexpectedEndOfFile (advance at v)) in
    let Q : List ℕ → Type 0 = λ v. token (here at (46 ∷ v)) ≡ Err (stop UnexpectedEndOfFile (step at 46)) in
    subst P (sym p) (subst Q (sym e) refl)
points_end at cs rest (inr p) e =
    let P : List ℕ → Type 0 = λ v. token (here at (v ++ rest)) ≡ Err (stop UnexpectedEndOfFile (advance at v)) in
    let Q : List ℕ → Type 0 = λ v. token (here at (46 ∷ 46 ∷ v)) ≡ Err (stop UnexpectedEndOfFile (step (step at 46) 46)) in
    subst P (sym p) (subst Q (sym e) refl)

points_broken : (at : SourcePosition) (points more : List ℕ) → ArePoints points → NextIsNot (is_in class.Point) more → more ≢ [] → token (here at (points ++ more)) ≡ Err (stop (UnexpectedCharacter 46) at)
unfolding token ellipsis point
points_broken at points [] p n e = absurd (e refl)
points_broken at points (c ∷ cs) (inl p) n e =
    let P : List ℕ → Type 0 = λ v. token (here at (v ++ (c ∷ cs))) ≡ Err (stop (UnexpectedCharacter 46) at) in
    subst P (sym p) (err_then (cond (c == 46) (Ok (here (step (step at 46) c) cs)) (Err (stop (UnexpectedCharacter 46) at))) (stop (UnexpectedCharacter 46) at) _ (if_false (c == 46) _ _ _ n refl))
points_broken at points (c ∷ cs) (inr p) n e =
    let P : List ℕ → Type 0 = λ v. token (here at (v ++ (c ∷ cs))) ≡ Err (stop (UnexpectedCharacter 46) at) in
    subst P (sym p) (err_then (cond (c == 46) (Ok (here (step (step (step at 46) 46) c) cs)) (Err (stop (UnexpectedCharacter 46) at))) (stop (UnexpectedCharacter 46) at) _ (if_false (c == 46) _ _ _ n refl))

none_begins : (at : SourcePosition) (c : ℕ) (rest : List ℕ) → NextIs c rest → BeginsNone c → token (here at rest) ≡ Err (stop (UnknownCharacter c) at)
unfolding token
none_begins at c [] n b = absurd n
none_begins at c (x ∷ xs) n b =
    let P : ℕ → Type 0 = λ v. token (here at (v ∷ xs)) ≡ Err (stop (UnknownCharacter c) at) in
    subst P n
    (if_false (is_in class.NameStart c) _ _ _ b.0 (if_false (is_ascii_digit c || c == 45) _ _ _ (or_from (is_ascii_digit c) (c == 45) b.1 (ne_eqb c 45 b.2))
    (if_false (c == 46) _ _ _ (ne_eqb c 46 b.3) (if_false (c == 34) _ _ _ (ne_eqb c 34 b.4) (ap (λ o. punctuated o c at (here (step at c) xs)) b.5)))))

-- ---- strings

-- a string's text that fails fails its token
string_fails : (at : SourcePosition) (cs : List ℕ) (f : Refusal) → string_from plain (step at 34) cs ≡ Err f → token (here at (34 ∷ cs)) ≡ Err f
unfolding token string
string_fails at cs f e = err_then (string_from plain (step at 34) cs) f _ e

text_goes : (at : SourcePosition) (text rest : List ℕ) → IsStringText text → string_from plain at (text ++ rest) ≡ string_from plain (advance at text) rest
text_goes at text rest t =
    let P : List ℕ → Type 0 = λ z. string_from plain at (z ++ rest) ≡ string_from plain (advance at z) rest in
    subst P (sym t.is) (pieces_go at t.pieces rest t.are)

-- a string that is open here fails as what comes next does
open_fails : (at : SourcePosition) (cs text rest : List ℕ) (f : Refusal) → cs ≡ 34 ∷ text → IsStringText text → string_from plain (advance (step at 34) text) rest ≡ Err f → token (here at (cs ++ rest)) ≡ Err f
open_fails at cs text rest f e t h =
    let P : List ℕ → Type 0 = λ v. token (here at (v ++ rest)) ≡ Err f in
    subst P (sym e) (string_fails at (text ++ rest) f (text_goes (step at 34) text rest t ∙ h))

line_fails : (at : SourcePosition) (rest : List ℕ) → NextIs 10 rest ⊎ NextIs 13 rest → string_from plain at rest ≡ Err (stop UnterminatedString at)
unfolding turn turn_plain
line_fails at [] (inl n) = absurd n
line_fails at [] (inr n) = absurd n
line_fails at (c ∷ cs) (inl n) = let P : ℕ → Type 0 = λ v. string_from plain at (v ∷ cs) ≡ Err (stop UnterminatedString at) in subst P n refl
line_fails at (c ∷ cs) (inr n) = let P : ℕ → Type 0 = λ v. string_from plain at (v ∷ cs) ≡ Err (stop UnterminatedString at) in subst P n refl

control_fails : (at : SourcePosition) (c : ℕ) (rest : List ℕ) → NextIs c rest → c < 32 → c ≢ 9 → c ≢ 10 → c ≢ 13 → string_from plain at rest ≡ Err (stop (UnknownCharacterInString c) at)
unfolding turn turn_plain
control_fails at c [] n l a b d = absurd n
control_fails at c (x ∷ xs) n l a b d =
    let P : ℕ → Type 0 = λ v. string_from plain at (v ∷ xs) ≡ Err (stop (UnknownCharacterInString c) at) in
    let e : turn_plain at c ≡ Err (stop (UnknownCharacterInString c) at) =
    if_false (c == 34) _ _ _ (ne_eqb c 34 (λ e. omega arith)) (if_false (c == 92) _ _ _ (ne_eqb c 92 (λ e. omega arith))
    (if_false (c == 10 || c == 13) _ _ _ (or_from (c == 10) (c == 13) (ne_eqb c 10 b) (ne_eqb c 13 d))
    (if_true (nat_lt c 32 && not (c == 9)) _ _ _ (and_from (nat_lt c 32) (not (c == 9)) (lt-ltb c 32 l) (ap not (ne_eqb c 9 a))) refl))) in
    subst P n (ap (λ r. turned r (here at (c ∷ xs)) (λ j. string_from j (step at c) xs)) e)

slash_goes : (at : SourcePosition) (rest : List ℕ) → string_from plain at (92 ∷ rest) ≡ string_from escape (step at 92) rest
unfolding turn turn_plain
slash_goes at rest = refl

-- an escape that is open here fails as what comes next does
escape_fails : (at : SourcePosition) (cs text rest : List ℕ) (f : Refusal) → cs ≡ 34 ∷ (text ++ 92 ∷ []) → IsStringText text → string_from escape (step (advance (step at 34) text) 92) rest ≡ Err f → token (here at (cs ++ rest)) ≡ Err f
escape_fails at cs text rest f e t h =
    let P : List ℕ → Type 0 = λ v. token (here at (v ++ rest)) ≡ Err f in
    subst P (sym e) (string_fails at ((text ++ 92 ∷ []) ++ rest) f (ap (string_from plain (step at 34)) (append_assoc text (92 ∷ []) rest) ∙ text_goes (step at 34) text (92 ∷ rest) t ∙ slash_goes (advance (step at 34) text) rest ∙ h))

code_begins : (at : SourcePosition) (rest : List ℕ) → string_from escape at (117 ∷ rest) ≡ string_from (code (here at (117 ∷ rest)) 0) (step at 117) rest
unfolding turn turn_escape
code_begins at rest = refl

-- letters of a code, up to three
letters_go : (from : Place) (n : ℕ) (at : SourcePosition) (letters rest : List ℕ) → Each is_ascii_alphanumeric letters → n + length letters ≤ 3 → string_from (code from n) at (letters ++ rest) ≡ string_from (code from (n + length letters)) (advance at letters) rest
unfolding turn turn_code
letters_go from n at [] rest e l = let z : n ≡ n + 0 = omega arith in ap (λ k. string_from (code from k) at rest) z
letters_go from n at (c ∷ cs) rest e l =
    let few : n < 3 = omega arith in
    let z : (n + 1) + length cs ≡ n + suc (length cs) = omega arith in
    goes_to (code from n) (code from (n + 1)) at c (cs ++ rest) (if_true (is_ascii_alphanumeric c) _ _ _ e.0 (if_true (nat_lt n 3) _ _ _ (lt-ltb n 3 few) refl))
    ∙ letters_go from (n + 1) (step at c) cs rest e.1 (omega arith)
    ∙ ap (λ k. string_from (code from k) (advance (step at c) cs) rest) z

-- an escape that stands for no character fails where it begins
bad_fails : (at : SourcePosition) (cs rest : List ℕ) → IsBadEscape cs rest → string_from escape at (cs ++ rest) ≡ Err (stop (UnknownEscapeSequence (92 ∷ encode_utf8_all cs)) at)
unfolding turn turn_escape turn_code
bad_fails at [] rest h = absurd h
bad_fails at (c ∷ cs) rest (inl (e, none, no_code)) =
    let P : List ℕ → Type 0 = λ v. string_from escape at (c ∷ (v ++ rest)) ≡ Err (stop (UnknownEscapeSequence (92 ∷ encode_utf8_all (c ∷ v))) at) in
    subst P (sym e) (one c rest none no_code)
  where
    one : (c : ℕ) (rest : List ℕ) → is_escape c ≡ false → c ≢ 117 → string_from escape at (c ∷ rest) ≡ Err (stop (UnknownEscapeSequence (92 ∷ encode_utf8_all (c ∷ []))) at)
    one c rest a b =
        let text : between (c ∷ rest) rest ≡ c ∷ [] = between_front (c ∷ rest) (c ∷ []) rest refl in
        let e : turn_escape at c rest ≡ Err (stop (UnknownEscapeSequence (92 ∷ encode_utf8_all (c ∷ []))) at) = if_false (is_escape c) _ _ _ a (if_false (c == 117) _ _ _ (ne_eqb c 117 b) (ap (λ v. Err (stop (UnknownEscapeSequence (92 ∷ encode_utf8_all v)) at)) text)) in
        ap (λ r. turned r (here at (c ∷ rest)) (λ j. string_from j (step at c) rest)) e
bad_fails at (c ∷ cs) rest (inr (e, each, why)) =
    let P : ℕ → Type 0 = λ v. string_from escape at (v ∷ (cs ++ rest)) ≡ Err (stop (UnknownEscapeSequence (92 ∷ encode_utf8_all (v ∷ cs))) at) in
    subst P (sym e) (code_begins at (cs ++ rest) ∙ coded why)
  where
    from : Place
    from = here at (117 ∷ (cs ++ rest))

    text : between (117 ∷ (cs ++ rest)) rest ≡ 117 ∷ cs
    text = between_front (117 ∷ (cs ++ rest)) (117 ∷ cs) rest refl

    fault : Refusal
    fault = stop (UnknownEscapeSequence (92 ∷ encode_utf8_all (117 ∷ cs))) at

    four : (at : SourcePosition) (ds : List ℕ) → cs ≡ ds → length ds ≡ 4 → (IsCode ds → ⊥) → Each is_ascii_alphanumeric ds → string_from (code from 0) at (ds ++ rest) ≡ Err fault
    four to [] z l h x = absurd (omega arith)
    four to (p ∷ []) z l h x = absurd (omega arith)
    four to (p ∷ q ∷ []) z l h x = absurd (omega arith)
    four to (p ∷ q ∷ r ∷ []) z l h x = absurd (omega arith)
    four to (p ∷ q ∷ r ∷ s ∷ []) z l h x =
        let no_code : is_code from.rest ≡ false = ap (λ v. is_code (117 ∷ (v ++ rest))) z ∙ false_from_ne_true (is_code (117 ∷ p ∷ q ∷ r ∷ s ∷ rest)) (λ k. h (is_code_true p q r s rest k)) in
        let last = step (step (step to p) q) r in
        let e : turn (code from 3) last s rest ≡ Err fault = if_true (is_ascii_alphanumeric s) _ _ _ x.1.1.1.0 (if_false (is_code from.rest) _ _ _ no_code (ap (λ v. Err (stop (UnknownEscapeSequence (92 ∷ encode_utf8_all v)) at)) text)) in
        letters_go from 0 to (p ∷ q ∷ r ∷ []) (s ∷ rest) (x.0, (x.1.0, (x.1.1.0, tt))) (omega arith) ∙ ap (λ r. turned r (here last (s ∷ rest)) (λ j. string_from j (step last s) rest)) e
    four to (p ∷ q ∷ r ∷ s ∷ t ∷ ts) z l h x = absurd (omega arith)

    few : (at_end : SourcePosition) (n : ℕ) (ds : List ℕ) → rest ≡ ds → NextIsNot is_ascii_alphanumeric ds → ds ≢ [] → string_from (code from n) at_end ds ≡ Err fault
    few to n [] z x y = absurd (y refl)
    few to n (d ∷ ds) z x y =
        let shown : between (117 ∷ (cs ++ rest)) (d ∷ ds) ≡ 117 ∷ cs = ap (between (117 ∷ (cs ++ rest))) (sym z) ∙ text in
        let e : turn (code from n) to d ds ≡ Err fault = if_false (is_ascii_alphanumeric d) _ _ _ x (ap (λ v. Err (stop (UnknownEscapeSequence (92 ∷ encode_utf8_all v)) at)) shown) in
        ap (λ r. turned r (here to (d ∷ ds)) (λ j. string_from j (step to d) ds)) e

    coded : ((length cs ≡ 4) × (IsCode cs → ⊥)) ⊎ ((length cs ≤ 3) × NextIsNot is_ascii_alphanumeric rest × (rest ≢ [])) → string_from (code from 0) (step at 117) (cs ++ rest) ≡ Err fault
    coded (inl (l, h)) = four (step at 117) cs refl l h each
    coded (inr (l, x, y)) = letters_go from 0 (step at 117) cs rest each (omega arith) ∙ few (advance (step at 117) cs) (0 + length cs) rest refl x y

-- ---- any fault

unended : (m : Mode) (at : SourcePosition) (rest : List ℕ) → rest ≡ [] → string_from m at rest ≡ Err (stop UnterminatedString at)
unended m at rest e = let P : List ℕ → Type 0 = λ v. string_from m at v ≡ Err (stop UnterminatedString at) in subst P (sym e) refl

place_of_escape : (at : SourcePosition) (cs text : List ℕ) → cs ≡ 34 ∷ (text ++ 92 ∷ []) → step (advance (step at 34) text) 92 ≡ advance at cs
place_of_escape at cs text e = sym (advance-append (step at 34) text (92 ∷ [])) ∙ ap (advance at) (sym e)

pub fault_is : (e : LexerError) (at : SourcePosition) (cs rest : List ℕ) → IsFault e cs rest → token (here at (cs ++ rest)) ≡ Err (stop e (advance at cs))
fault_is (UnknownCharacter c) at cs rest f =
    let P : List ℕ → Type 0 = λ v. token (here at (v ++ rest)) ≡ Err (stop (UnknownCharacter c) (advance at v)) in
    subst P (sym f.0) (none_begins at c rest f.1 f.2)
fault_is (UnexpectedCharacter c) at cs rest (inl (z, dot, (points, more, p, is, n, some))) =
    let P : List ℕ → Type 0 = λ v. token (here at (v ++ rest)) ≡ Err (stop (UnexpectedCharacter c) (advance at v)) in
    subst P (sym z) (ap (λ v. token (here at v)) is ∙ points_broken at points more p n some ∙ ap (λ v. Err (stop (UnexpectedCharacter v) at)) (sym dot))
fault_is (UnexpectedCharacter c) at cs rest (inr (inl (n, next, h))) = lacks_digit (UnexpectedCharacter c) at cs rest n (next, h)
fault_is (UnexpectedCharacter c) at cs rest (inr (inr (z, next, h))) = zero_fails at cs rest c z next h
fault_is UnexpectedEndOfFile at cs rest (e, inl n) = lacks_digit UnexpectedEndOfFile at cs rest n e
fault_is UnexpectedEndOfFile at cs rest (e, inr p) = points_end at cs rest p e
fault_is UnterminatedString at cs rest (inl ((text, t, is), n)) =
    open_fails at cs text rest (stop UnterminatedString (advance (step at 34) text)) is t (line_fails (advance (step at 34) text) rest n) ∙ ap (λ v. Err (stop UnterminatedString (advance at v))) (sym is)
fault_is UnterminatedString at cs rest (inr (e, inl (text, t, is))) =
    open_fails at cs text rest (stop UnterminatedString (advance (step at 34) text)) is t (unended plain (advance (step at 34) text) rest e) ∙ ap (λ v. Err (stop UnterminatedString (advance at v))) (sym is)
fault_is UnterminatedString at cs rest (inr (e, inr (inl (text, t, is)))) =
    let to = step (advance (step at 34) text) 92 in
    escape_fails at cs text rest (stop UnterminatedString to) is t (unended escape to rest e) ∙ ap (λ v. Err (stop UnterminatedString v)) (place_of_escape at cs text is)
fault_is UnterminatedString at cs rest (inr (e, inr (inr (text, letters, t, each, l, is)))) =
    let to = step (advance (step at 34) text) 92 in
    let front = 34 ∷ (text ++ 92 ∷ []) in
    let apart : cs ≡ front ++ (117 ∷ letters) = is ∙ ap (λ v. 34 ∷ v) (sym (append_assoc text (92 ∷ []) (117 ∷ letters))) in
    let end = advance (step to 117) letters in
    let from = here to (117 ∷ (letters ++ rest)) in
    let ends : string_from escape to (117 ∷ (letters ++ rest)) ≡ Err (stop UnterminatedString end) = code_begins to (letters ++ rest) ∙ letters_go from 0 (step to 117) letters rest each (omega arith) ∙ unended (code from (0 + length letters)) end rest e in
    let place : end ≡ advance at cs = ap (λ v. advance (step v 117) letters) (place_of_escape at front text refl) ∙ sym (advance-append at front (117 ∷ letters)) ∙ ap (advance at) (sym apart) in
    ap (λ v. token (here at v)) (ap (λ v. v ++ rest) apart ∙ append_assoc front (117 ∷ letters) rest)
    ∙ escape_fails at front text (117 ∷ (letters ++ rest)) (stop UnterminatedString end) refl t ends
    ∙ ap (λ v. Err (stop UnterminatedString v)) place
fault_is (UnknownCharacterInString c) at cs rest ((text, t, is), n, l, a, b, d) =
    open_fails at cs text rest (stop (UnknownCharacterInString c) (advance (step at 34) text)) is t (control_fails (advance (step at 34) text) c rest n l a b d) ∙ ap (λ v. Err (stop (UnknownCharacterInString c) (advance at v))) (sym is)
fault_is (UnknownEscapeSequence s) at cs rest ((text, t, is), (escaped, more, e, bad, shown)) =
    let to = step (advance (step at 34) text) 92 in
    let f = stop (UnknownEscapeSequence (92 ∷ encode_utf8_all escaped)) to in
    escape_fails at cs text rest f is t (ap (string_from escape to) e ∙ bad_fails to escaped more bad) ∙ ap (λ v. Err (stop (UnknownEscapeSequence v) to)) (sym shown) ∙ ap (λ v. Err (stop (UnknownEscapeSequence s) v)) (place_of_escape at cs text is)
fault_is InvalidNumber at cs rest f = absurd f
fault_is Memory at cs rest f = absurd f

-- ---- whole texts

pub broken_fault : (text : List ℕ) (e : Refusal) → IsBroken text e → FirstFault text e
unfolding cut
broken_fault text e b = record { front = b.front; before = p; runs = runs_of [] text b.front b.before b.rest b.divides; refuses = refuses }
  where
    p : Place
    p = here (advance origin b.before) b.rest

    refuses : cut (here (advance origin b.before) b.rest) ≡ Err e
    refuses =
        let to : advance (advance (advance origin b.before) b.gap) b.own ≡ position_of ((b.before ++ b.gap) ++ b.own) = ap (λ z. advance z b.own) (sym (advance-append origin b.before b.gap)) ∙ sym (advance-append origin (b.before ++ b.gap) b.own) ∙ advance_origin ((b.before ++ b.gap) ++ b.own) in
        let a = ahead_is (here (advance origin b.before) b.rest) b.gap (b.own ++ b.behind) b.gap_is b.is in
        let k = fault_is e.item (advance (advance origin b.before) b.gap) b.own b.behind b.fault in
        let F : SourcePosition → SourcePosition → Refusal = λ s t. record { item = e.item; span = record { start = s; end = t } } in
        err_then (token (ahead (here (advance origin b.before) b.rest))) (stop e.item (advance (advance (advance origin b.before) b.gap) b.own)) _ (ap token a ∙ k)
        ∙ ap (λ z. Err (F z z)) to
        ∙ ap (λ z. Err (F z (position_of ((b.before ++ b.gap) ++ b.own)))) (sym b.start)
        ∙ ap (λ z. Err (F e.span.start z)) (sym b.end)
