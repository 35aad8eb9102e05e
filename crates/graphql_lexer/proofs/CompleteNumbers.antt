-- A number of the grammar is read.
use Rattle.std.proofs.Common.{◌≡◌, ◌⊎◌, inl, inr, ℕ, ◌≤◌, Bool, true, false, cond, nat_le, ◌||◌, ◌==◌, List, [], ◌∷◌, ◌++◌, sym, subst, ap, ◌∙◌, refl, Result, Ok, append_assoc, encode_utf8_all, arith}
use Rattle.std.proofs.lemmas.List.{append-nil}
use Rattle.std.proofs.lemmas.Bool.{eqb-true, leb-true, and_parts, or_cases, or_from, or_right, ne_eqb}
use Rattle.std.specs.Char.{is_ascii_digit}
use Rattle.graphql_text.specs.declared.position.SourcePosition.{SourcePosition}
use Rattle.graphql_text.specs.declared.token.Token.{Token}
use Rattle.graphql_text.specs.declared.token.Token.TheVariants.{Scalar}
use Rattle.graphql_text.specs.declared.token.ScalarToken.TheVariants.{Float, Int}
use Rattle.graphql_text.specs.declared.class.Class.{Class}
use Rattle.graphql_text.specs.declared.class.Class.TheVariants as class
use Rattle.graphql_text.specs.Position.{step}
use Rattle.graphql_text.specs.Reading.{Place, Refusal, ◌>>=◌, is_in, begins, past, past_one, between}
use Rattle.graphql_text.specs.Numbers.{digits, no_digit, whole, fraction, exponent, number}
use Rattle.graphql_text.specs.Grammar.{Each, NextIsNot, IsOptional, IsDigits, IsWhole, IsInteger, IsFraction, IsExponent, IsFloat, HasExponent}
use Rattle.graphql_lexer.proofs.TextLemmas.{between_front}
use Rattle.graphql_lexer.proofs.Leading.{advance, advance-append}
use Rattle.graphql_lexer.proofs.Readings.{begins_not}

-- the place behind these characters
abbrev pub behind : SourcePosition → List ℕ → List ℕ → Place
behind at cs rest = record { at = advance at cs; rest = rest }

abbrev pub here : SourcePosition → List ℕ → Place
here at rest = record { at = at; rest = rest }

pub if_true : {A : Type 0} (b : Bool) (x y z : A) → b ≡ true → x ≡ z → cond b x y ≡ z
if_true b x y z h e = ap (λ b. cond b x y) h ∙ e

pub if_false : {A : Type 0} (b : Bool) (x y z : A) → b ≡ false → y ≡ z → cond b x y ≡ z
if_false b x y z h e = ap (λ b. cond b x y) h ∙ e

-- ---- kinds of characters

pub past_is : (k : Class) (at : SourcePosition) (cs rest : List ℕ) → Each (is_in k) cs → NextIsNot (is_in k) rest → past k at (cs ++ rest) ≡ behind at cs rest
past_is k at [] [] e n = refl
past_is k at [] (d ∷ ds) e n = if_false (is_in k d) _ _ _ n refl
past_is k at (c ∷ cs) rest e n = if_true (is_in k c) _ _ _ e.0 (past_is k (step at c) cs rest e.1 n)

-- ---- numbers

pub digits_is : (at : SourcePosition) (cs rest : List ℕ) → IsDigits cs → NextIsNot is_ascii_digit rest → digits (here at (cs ++ rest)) ≡ Ok (behind at cs rest)
unfolding digits
digits_is at [] rest d n = absurd d
digits_is at (c ∷ cs) rest d n = if_true (is_ascii_digit c) _ _ _ d.0 (ap Ok (past_is class.Digit (step at c) cs rest d.1 n))

no_digit_is : (at : SourcePosition) (rest : List ℕ) → NextIsNot is_ascii_digit rest → no_digit (here at rest) ≡ Ok (here at rest)
unfolding no_digit
no_digit_is at [] n = refl
no_digit_is at (c ∷ cs) n = if_false (is_ascii_digit c) _ _ _ n refl

pub whole_is : (at : SourcePosition) (cs rest : List ℕ) → IsWhole cs → NextIsNot is_ascii_digit rest → whole (here at (cs ++ rest)) ≡ Ok (behind at cs rest)
unfolding whole
whole_is at cs rest (inl e) n =
    let P : List ℕ → Type 0 = λ z. whole (here at (z ++ rest)) ≡ Ok (behind at z rest) in
    subst P (sym e) (no_digit_is (step at 48) rest n)
whole_is at [] rest (inr d) n = absurd d.0
whole_is at (c ∷ cs) rest (inr d) n = if_false (c == 48) _ _ _ d.1 (digits_is at (c ∷ cs) rest d.0 n)

pub fraction_is : (at : SourcePosition) (cs rest : List ℕ) → IsFraction cs → NextIsNot is_ascii_digit rest → fraction (here at (cs ++ rest)) ≡ Ok (behind at cs rest)
unfolding fraction begins past_one
fraction_is at cs rest f n =
    let P : List ℕ → Type 0 = λ z. fraction (here at (z ++ rest)) ≡ Ok (behind at z rest) in
    subst P (sym f.is) (digits_is (step at 46) f.digits rest f.digits_are n)

pub fraction_none : (at : SourcePosition) (rest : List ℕ) → NextIsNot (is_in class.Point) rest → fraction (here at rest) ≡ Ok (here at rest)
unfolding fraction
fraction_none at rest n = if_false (begins class.Point (here at rest)) _ _ _ (begins_not class.Point (here at rest) n) refl

pub exponent_none : (at : SourcePosition) (rest : List ℕ) → NextIsNot (is_in class.Exponent) rest → exponent (here at rest) ≡ Ok (here at rest)
unfolding exponent
exponent_none at rest n = if_false (begins class.Exponent (here at rest)) _ _ _ (begins_not class.Exponent (here at rest) n) refl

past_one_not : (k : Class) (at : SourcePosition) (rest : List ℕ) → NextIsNot (is_in k) rest → past_one k (here at rest) ≡ here at rest
unfolding past_one
past_one_not k at [] n = refl
past_one_not k at (c ∷ cs) n = if_false (is_in k c) _ _ _ n refl

pub past_one_is : (k : Class) (at : SourcePosition) (c : ℕ) (rest : List ℕ) → is_in k c ≡ true → past_one k (here at (c ∷ rest)) ≡ here (step at c) rest
unfolding past_one
past_one_is k at c rest h = if_true (is_in k c) _ _ _ h refl

pub past_optional : (k : Class) (at : SourcePosition) (cs rest : List ℕ) → IsOptional k cs → NextIsNot (is_in k) rest → past_one k (here at (cs ++ rest)) ≡ behind at cs rest
past_optional k at cs rest (inl e) n =
    let P : List ℕ → Type 0 = λ z. past_one k (here at (z ++ rest)) ≡ behind at z rest in
    subst P (sym e) (past_one_not k at rest n)
past_optional k at cs rest (inr (c, h, e)) n =
    let P : List ℕ → Type 0 = λ z. past_one k (here at (z ++ rest)) ≡ behind at z rest in
    subst P (sym e) (past_one_is k at c rest h)

-- a digit's range
digit_range : (c : ℕ) → is_ascii_digit c ≡ true → (48 ≤ c) × (c ≤ 57)
digit_range c h = let p = and_parts (nat_le 48 c) (nat_le c 57) h in (leb-true 48 c p.0, leb-true c 57 p.1)

digits_no_sign : (cs rest : List ℕ) → IsDigits cs → NextIsNot (is_in class.Sign) (cs ++ rest)
digits_no_sign [] rest d = absurd d
digits_no_sign (c ∷ cs) rest d = let r = digit_range c d.0 in or_from (c == 43) (c == 45) (ne_eqb c 43 (λ e. omega arith)) (ne_eqb c 45 (λ e. omega arith))

pub exponent_is : (at : SourcePosition) (cs rest : List ℕ) → IsExponent cs → NextIsNot is_ascii_digit rest → exponent (here at (cs ++ rest)) ≡ Ok (behind at cs rest)
unfolding exponent begins
exponent_is at cs rest x n =
    let b = x.begins in
    let is : cs ≡ b.letter ∷ (b.sign ++ x.digits) = x.is ∙ ap (λ z. z ++ x.digits) b.is in
    let P : List ℕ → Type 0 = λ z. exponent (here at (z ++ rest)) ≡ Ok (behind at z rest) in
    let one : past_one class.Exponent (here at (b.letter ∷ ((b.sign ++ x.digits) ++ rest))) ≡ here (step at b.letter) ((b.sign ++ x.digits) ++ rest) = past_one_is class.Exponent at b.letter ((b.sign ++ x.digits) ++ rest) b.letter_is in
    let two : past_one class.Sign (here (step at b.letter) ((b.sign ++ x.digits) ++ rest)) ≡ behind (step at b.letter) b.sign (x.digits ++ rest) =
    ap (λ z. past_one class.Sign (here (step at b.letter) z)) (append_assoc b.sign x.digits rest) ∙ past_optional class.Sign (step at b.letter) b.sign (x.digits ++ rest) b.sign_is (digits_no_sign x.digits rest x.digits_are) in
    let three : digits (behind (step at b.letter) b.sign (x.digits ++ rest)) ≡ Ok (behind (advance (step at b.letter) b.sign) x.digits rest) = digits_is (advance (step at b.letter) b.sign) x.digits rest x.digits_are n in
    let last : behind (advance (step at b.letter) b.sign) x.digits rest ≡ behind at (b.letter ∷ (b.sign ++ x.digits)) rest = ap (λ z. here z rest) (sym (advance-append (step at b.letter) b.sign x.digits)) in
    subst P (sym is) (if_true (is_in class.Exponent b.letter) _ _ _ b.letter_is (ap (λ z. digits (past_one class.Sign z)) one ∙ ap digits two ∙ three ∙ ap Ok last))

-- a whole number is no sign
whole_no_minus : (cs rest : List ℕ) → IsWhole cs → NextIsNot (is_in class.Minus) (cs ++ rest)
whole_no_minus cs rest (inl e) = let P : List ℕ → Type 0 = λ z. NextIsNot (is_in class.Minus) (z ++ rest) in subst P (sym e) refl
whole_no_minus [] rest (inr d) = absurd d.0
whole_no_minus (c ∷ cs) rest (inr d) = let r = digit_range c d.0.0 in ne_eqb c 45 (λ e. omega arith)

-- the integer part of a number
pub integer_read : (at : SourcePosition) (s w rest : List ℕ) → IsOptional class.Minus s → IsWhole w → NextIsNot is_ascii_digit rest → whole (past_one class.Minus (here at ((s ++ w) ++ rest))) ≡ Ok (behind at (s ++ w) rest)
integer_read at s w rest s_is w_is n =
    ap (λ z. whole (past_one class.Minus (here at z))) (append_assoc s w rest)
    ∙ ap whole (past_optional class.Minus at s (w ++ rest) s_is (whole_no_minus w rest w_is))
    ∙ whole_is (advance at s) w rest w_is n
    ∙ ap (λ z. Ok (here z rest)) (sym (advance-append at s w))

-- a number behind its integer part and its fraction or none, where its exponent or none is
number_parts : (at : SourcePosition) (s w f x rest : List ℕ) → IsOptional class.Minus s → IsWhole w → NextIsNot is_ascii_digit (f ++ (x ++ rest)) →
    fraction (behind at (s ++ w) (f ++ (x ++ rest))) ≡ Ok (behind at ((s ++ w) ++ f) (x ++ rest)) →
    exponent (behind at ((s ++ w) ++ f) (x ++ rest)) ≡ Ok (behind at (((s ++ w) ++ f) ++ x) rest) →
    number (here at ((((s ++ w) ++ f) ++ x) ++ rest)) ≡ Ok (cond (begins class.Point (behind at (s ++ w) (f ++ (x ++ rest))) || begins class.Exponent (behind at (s ++ w) (f ++ (x ++ rest)))) (Scalar (Float (encode_utf8_all (((s ++ w) ++ f) ++ x)))) (Scalar (Int (encode_utf8_all (((s ++ w) ++ f) ++ x)))), behind at (((s ++ w) ++ f) ++ x) rest)
unfolding number
number_parts at s w f x rest s_is w_is no_digits fraction_done exponent_done =
    let all = ((s ++ w) ++ f) ++ x in
    let p : Place = here at (all ++ rest) in
    let apart : all ++ rest ≡ (s ++ w) ++ (f ++ (x ++ rest)) = append_assoc ((s ++ w) ++ f) x rest ∙ append_assoc (s ++ w) f (x ++ rest) in
    let two : whole (past_one class.Minus p) ≡ Ok (behind at (s ++ w) (f ++ (x ++ rest))) = ap (λ z. whole (past_one class.Minus (here at z))) apart ∙ integer_read at s w (f ++ (x ++ rest)) s_is w_is no_digits in
    let text : between p.rest rest ≡ all = between_front (all ++ rest) all rest refl in
    let W = behind at (s ++ w) (f ++ (x ++ rest)) in
    let F = behind at ((s ++ w) ++ f) (x ++ rest) in
    let E = behind at all rest in
    let answer : Place → Place → Result (Token × Place) Refusal = λ w e. Ok (cond (begins class.Point w || begins class.Exponent w) (Scalar (Float (encode_utf8_all (between p.rest e.rest)))) (Scalar (Int (encode_utf8_all (between p.rest e.rest)))), e) in
    let T : List ℕ → Result (Token × Place) Refusal = λ t. Ok (cond (begins class.Point W || begins class.Exponent W) (Scalar (Float (encode_utf8_all t))) (Scalar (Int (encode_utf8_all t))), E) in
    ap (λ r. r >>= (λ w. fraction w >>= (λ f. exponent f >>= (λ e. answer w e)))) two
    ∙ ap (λ r. r >>= (λ f. exponent f >>= (λ e. answer W e))) fraction_done
    ∙ ap (λ r. r >>= (λ e. answer W e)) exponent_done
    ∙ ap T text

next_append : (p : ℕ → Bool) (cs rest : List ℕ) → ((cs ≡ []) → NextIsNot p rest) → NextIsNot p cs → NextIsNot p (cs ++ rest)
next_append p [] rest n m = n refl
next_append p (c ∷ cs) rest n m = m

pub int_is : (at : SourcePosition) (cs rest : List ℕ) → IsInteger cs → NextIsNot is_ascii_digit rest → NextIsNot (is_in class.Point) rest → NextIsNot (is_in class.Exponent) rest → number (here at (cs ++ rest)) ≡ Ok (Scalar (Int (encode_utf8_all cs)), behind at cs rest)
int_is at cs rest i n no_point no_exponent =
    let W = i.sign ++ i.whole in
    let nil : (W ++ []) ++ [] ≡ W = append-nil (W ++ []) ∙ append-nil W in
    let f : fraction (behind at W ([] ++ ([] ++ rest))) ≡ Ok (behind at (W ++ []) ([] ++ rest)) = fraction_none (advance at W) rest no_point ∙ ap (λ z. Ok (behind at z rest)) (sym (append-nil W)) in
    let x : exponent (behind at (W ++ []) ([] ++ rest)) ≡ Ok (behind at ((W ++ []) ++ []) rest) = exponent_none (advance at (W ++ [])) rest no_exponent ∙ ap (λ z. Ok (behind at z rest)) (sym (append-nil (W ++ []))) in
    let e = number_parts at i.sign i.whole [] [] rest i.sign_is i.whole_is n f x in
    let b : (begins class.Point (behind at W rest) || begins class.Exponent (behind at W rest)) ≡ false = or_from _ _ (begins_not class.Point (behind at W rest) no_point) (begins_not class.Exponent (behind at W rest) no_exponent) in
    let P : List ℕ → Type 0 = λ z. number (here at (z ++ rest)) ≡ Ok (Scalar (Int (encode_utf8_all z)), behind at z rest) in
    subst P (nil ∙ sym i.is) (e ∙ ap (λ b. Ok (cond b (Scalar (Float (encode_utf8_all ((W ++ []) ++ [])))) (Scalar (Int (encode_utf8_all ((W ++ []) ++ [])))), behind at ((W ++ []) ++ []) rest)) b)

pub fraction_no_digit : (f rest : List ℕ) → IsFraction f → NextIsNot is_ascii_digit (f ++ rest)
fraction_no_digit f rest x = let P : List ℕ → Type 0 = λ z. NextIsNot is_ascii_digit (z ++ rest) in subst P (sym x.is) refl

pub letter_no_digit : (c : ℕ) → is_in class.Exponent c ≡ true → is_ascii_digit c ≡ false
letter_no_digit c h = elim (or_cases (c == 101) (c == 69) h) [ inl e ↦ ap is_ascii_digit (eqb-true c 101 e) | inr e ↦ ap is_ascii_digit (eqb-true c 69 e) ]

pub letter_no_point : (c : ℕ) → is_in class.Exponent c ≡ true → is_in class.Point c ≡ false
letter_no_point c h = elim (or_cases (c == 101) (c == 69) h) [ inl e ↦ ap (is_in class.Point) (eqb-true c 101 e) | inr e ↦ ap (is_in class.Point) (eqb-true c 69 e) ]

exponent_head : (p : ℕ → Bool) (x rest : List ℕ) → IsExponent x → ((c : ℕ) → is_in class.Exponent c ≡ true → p c ≡ false) → NextIsNot p (x ++ rest)
exponent_head p x rest e f =
    let P : List ℕ → Type 0 = λ z. NextIsNot p (z ++ rest) in
    subst P (sym (e.is ∙ ap (λ z. z ++ e.digits) e.begins.is)) (f e.begins.letter e.begins.letter_is)

fraction_begins : (at : SourcePosition) (f rest : List ℕ) → IsFraction f → begins class.Point (here at (f ++ rest)) ≡ true
unfolding begins
fraction_begins at f rest x = let P : List ℕ → Type 0 = λ z. begins class.Point (here at (z ++ rest)) ≡ true in subst P (sym x.is) refl

exponent_begins : (at : SourcePosition) (x rest : List ℕ) → IsExponent x → begins class.Exponent (here at (x ++ rest)) ≡ true
unfolding begins
exponent_begins at x rest e = let P : List ℕ → Type 0 = λ z. begins class.Exponent (here at (z ++ rest)) ≡ true in subst P (sym (e.is ∙ ap (λ z. z ++ e.digits) e.begins.is)) e.begins.letter_is

-- no letter of an exponent is in a number without one
digits_no_letter : (c : ℕ) → is_ascii_digit c ≡ true → is_in class.Exponent c ≡ true → ⊥
digits_no_letter c d h = let n = letter_no_digit c h in cc

each_no_exponent : (cs : List ℕ) → Each is_ascii_digit cs → HasExponent cs → ⊥
each_no_exponent [] e h = h
each_no_exponent (c ∷ cs) e (inl h) = digits_no_letter c e.0 h
each_no_exponent (c ∷ cs) e (inr h) = each_no_exponent cs e.1 h

digits_no_exponent : (cs : List ℕ) → IsDigits cs → HasExponent cs → ⊥
digits_no_exponent [] d h = d
digits_no_exponent (c ∷ cs) d h = each_no_exponent (c ∷ cs) d h

has_either : (xs ys : List ℕ) → HasExponent (xs ++ ys) → HasExponent xs ⊎ HasExponent ys
has_either [] ys h = inr h
has_either (x ∷ xs) ys (inl h) = inl (inl h)
has_either (x ∷ xs) ys (inr h) = elim (has_either xs ys h) [ inl a ↦ inl (inr a) | inr b ↦ inr b ]

integer_no_exponent : (cs : List ℕ) → IsInteger cs → HasExponent cs → ⊥
integer_no_exponent cs i h = on (has_either i.sign i.whole (subst HasExponent i.is h))
  where
    sign_not : (s : List ℕ) → IsOptional class.Minus s → HasExponent s → ⊥
    sign_not s (inl e) h = subst HasExponent e h
    sign_not s (inr (c, m, e)) h = one (subst HasExponent e h)
      where
        one : HasExponent (c ∷ []) → ⊥
        one (inl x) = let z : is_in class.Exponent c ≡ false = ap (is_in class.Exponent) (eqb-true c 45 m) in cc
        one (inr x) = x

    whole_not : (w : List ℕ) → IsWhole w → HasExponent w → ⊥
    whole_not w (inl e) h = zero_not (subst HasExponent e h)
      where
        zero_not : HasExponent (48 ∷ []) → ⊥
        zero_not (inl x) = cc
        zero_not (inr x) = x
    whole_not w (inr d) h = digits_no_exponent w d.0 h

    on : HasExponent i.sign ⊎ HasExponent i.whole → ⊥
    on (inl a) = sign_not i.sign i.sign_is a
    on (inr b) = whole_not i.whole i.whole_is b

fraction_no_exponent : (cs : List ℕ) → IsFraction cs → HasExponent cs → ⊥
fraction_no_exponent cs f h = on (subst HasExponent f.is h)
  where
    on : HasExponent (46 ∷ f.digits) → ⊥
    on (inl x) = cc
    on (inr x) = digits_no_exponent f.digits f.digits_are x

pub float_is : (at : SourcePosition) (cs rest : List ℕ) → IsFloat cs → NextIsNot is_ascii_digit rest → HasExponent cs ⊎ NextIsNot (is_in class.Exponent) rest → number (here at (cs ++ rest)) ≡ Ok (Scalar (Float (encode_utf8_all cs)), behind at cs rest)
float_is at cs rest i n last =
    let integer = i.integer_is in
    let W = integer.sign ++ integer.whole in
    let f = i.fraction in
    let x = i.exponent in
    let is : (W ++ f) ++ x ≡ cs = append_assoc W f x ∙ ap (λ z. z ++ (f ++ x)) (sym integer.is) ∙ sym i.is in
    let P : List ℕ → Type 0 = λ z. number (here at (z ++ rest)) ≡ Ok (Scalar (Float (encode_utf8_all z)), behind at z rest) in
    let e = number_parts at integer.sign integer.whole f x rest integer.sign_is integer.whole_is (no_digits i.fraction_is i.exponent_is) (fraction_done W i.fraction_is i.exponent_is i.one) (exponent_done W i.exponent_is) in
    subst P is (e ∙ ap (λ b. Ok (cond b (Scalar (Float (encode_utf8_all ((W ++ f) ++ x)))) (Scalar (Int (encode_utf8_all ((W ++ f) ++ x)))), behind at ((W ++ f) ++ x) rest)) (flag W i.one i.fraction_is))
  where
    f : List ℕ
    f = i.fraction

    x : List ℕ
    x = i.exponent

    behind_fraction : (x ≡ []) ⊎ IsExponent x → NextIsNot is_ascii_digit (x ++ rest)
    behind_fraction (inl e) = let Q : List ℕ → Type 0 = λ z. NextIsNot is_ascii_digit (z ++ rest) in subst Q (sym e) n
    behind_fraction (inr e) = exponent_head is_ascii_digit x rest e letter_no_digit

    no_digits : (f ≡ []) ⊎ IsFraction f → (x ≡ []) ⊎ IsExponent x → NextIsNot is_ascii_digit (f ++ (x ++ rest))
    no_digits (inl e) h = let Q : List ℕ → Type 0 = λ z. NextIsNot is_ascii_digit (z ++ (x ++ rest)) in subst Q (sym e) (behind_fraction h)
    no_digits (inr e) h = fraction_no_digit f (x ++ rest) e

    no_point : (f ≡ []) → IsFraction f ⊎ IsExponent x → NextIsNot (is_in class.Point) (x ++ rest)
    no_point e (inl h) = absurd (let q = h.is in cc)
    no_point e (inr h) = exponent_head (is_in class.Point) x rest h letter_no_point

    fraction_done : (W : List ℕ) → (f ≡ []) ⊎ IsFraction f → (x ≡ []) ⊎ IsExponent x → IsFraction f ⊎ IsExponent x → fraction (behind at W (f ++ (x ++ rest))) ≡ Ok (behind at (W ++ f) (x ++ rest))
    fraction_done W (inl e) h one =
        let Q : List ℕ → Type 0 = λ z. fraction (behind at W (z ++ (x ++ rest))) ≡ Ok (behind at (W ++ z) (x ++ rest)) in
        subst Q (sym e) (fraction_none (advance at W) (x ++ rest) (no_point e one) ∙ ap (λ z. Ok (behind at z (x ++ rest))) (sym (append-nil W)))
    fraction_done W (inr e) h one = fraction_is (advance at W) f (x ++ rest) e (behind_fraction h) ∙ ap (λ z. Ok (here z (x ++ rest))) (sym (advance-append at W f))

    ends : (x ≡ []) → (h : HasExponent cs ⊎ NextIsNot (is_in class.Exponent) rest) → NextIsNot (is_in class.Exponent) rest
    ends e (inr h) = h
    ends e (inl h) = absurd (none (has_either i.integer (f ++ x) (subst HasExponent i.is h)))
      where
        tail_not : (f ≡ []) ⊎ IsFraction f → HasExponent f → ⊥
        tail_not (inl z) g = subst HasExponent z g
        tail_not (inr z) g = fraction_no_exponent f z g

        none : HasExponent i.integer ⊎ HasExponent (f ++ x) → ⊥
        none (inl g) = integer_no_exponent i.integer i.integer_is g
        none (inr g) = tail_not i.fraction_is (subst HasExponent (ap (λ z. f ++ z) e ∙ append-nil f) g)

    exponent_done : (W : List ℕ) → (x ≡ []) ⊎ IsExponent x → exponent (behind at (W ++ f) (x ++ rest)) ≡ Ok (behind at ((W ++ f) ++ x) rest)
    exponent_done W (inl e) =
        let Q : List ℕ → Type 0 = λ z. exponent (behind at (W ++ f) (z ++ rest)) ≡ Ok (behind at ((W ++ f) ++ z) rest) in
        subst Q (sym e) (exponent_none (advance at (W ++ f)) rest (ends e last) ∙ ap (λ z. Ok (behind at z rest)) (sym (append-nil (W ++ f))))
    exponent_done W (inr e) = exponent_is (advance at (W ++ f)) x rest e n ∙ ap (λ z. Ok (here z rest)) (sym (advance-append at (W ++ f) x))

    flag : (W : List ℕ) → IsFraction f ⊎ IsExponent x → (f ≡ []) ⊎ IsFraction f → (begins class.Point (behind at W (f ++ (x ++ rest))) || begins class.Exponent (behind at W (f ++ (x ++ rest)))) ≡ true
    flag W (inl h) o = ap (λ b. b || begins class.Exponent (behind at W (f ++ (x ++ rest)))) (fraction_begins (advance at W) f (x ++ rest) h)
    flag W (inr h) (inr g) = ap (λ b. b || begins class.Exponent (behind at W (f ++ (x ++ rest)))) (fraction_begins (advance at W) f (x ++ rest) g)
    flag W (inr h) (inl e) =
        let Q : List ℕ → Type 0 = λ z. begins class.Exponent (behind at W (z ++ (x ++ rest))) ≡ true in
        or_right (begins class.Point (behind at W (f ++ (x ++ rest)))) _ (subst Q (sym e) (exponent_begins (advance at W) x rest h))
