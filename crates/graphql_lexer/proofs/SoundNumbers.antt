-- A number that is read is one of the grammar, and a fault in one is the grammar's.
use Rattle.std.proofs.Common.{◌≡◌, ◌⊎◌, inl, inr, ℕ, Bool, true, false, cond, ◌||◌, ◌==◌, List, [], ◌∷◌, ◌++◌, sym, subst, ap, ◌∙◌, refl, append_assoc, encode_utf8_all}
use Rattle.std.proofs.lemmas.List.{append-nil}
use Rattle.std.proofs.lemmas.Bool.{eqb-true}
use Rattle.std.specs.Char.{is_ascii_digit}
use Rattle.graphql_text.specs.declared.position.SourcePosition.{SourcePosition}
use Rattle.graphql_text.specs.declared.token.LexerError.{LexerError}
use Rattle.graphql_text.specs.declared.token.LexerError.TheVariants.{UnknownCharacter, UnexpectedCharacter, UnterminatedString, UnknownCharacterInString, UnknownEscapeSequence, UnexpectedEndOfFile, InvalidNumber, Memory}
use Rattle.graphql_text.specs.declared.token.Token.{Token}
use Rattle.graphql_text.specs.declared.token.Token.TheVariants.{Scalar}
use Rattle.graphql_text.specs.declared.token.ScalarToken.TheVariants.{Float, Int}
use Rattle.graphql_text.specs.declared.class.Class.{Class}
use Rattle.graphql_lexer.proofs.TextLemmas.{between_front}
use Rattle.graphql_text.specs.declared.class.Class.TheVariants as class
use Rattle.graphql_text.specs.Position.{step}
use Rattle.graphql_text.specs.Reading.{Place, is_in, begins, past, past_one, between}
use Rattle.graphql_text.specs.Numbers.{digits, no_digit, whole, fraction, exponent, number}
use Rattle.graphql_text.specs.Grammar.{NextIs, NextIsNot, IsOptional, IsDigits, IsWhole, IsInteger, IsFraction, BeginsExponent, IsExponent, IsFloat, Spells, Ends, HasExponent, LacksDigit, NeedsDigit, IsZero, IsFault}
use Rattle.graphql_lexer.proofs.Leading.{same}
use Rattle.graphql_lexer.proofs.Readings.{stays, goes_step, goes_one, goes_then, DoneOrFails, reads_if, reads_map, reads_on, reads_then, past_reads, past_one_true, begins_false, begins_not, past_one_reads}

-- ---- digits

abbrev pub DigitsRead : List ℕ → Place → Type 0
DigitsRead cs q = IsDigits cs × NextIsNot is_ascii_digit q.rest

abbrev pub DigitsFail : LexerError → List ℕ → List ℕ → Type 0
DigitsFail e cs rest = (cs ≡ []) × LacksDigit e rest

pub digits_reads : (p : Place) → DoneOrFails p same DigitsRead DigitsFail (digits p)
unfolding digits
digits_reads p = on p.at p.rest
  where
    on : (at : SourcePosition) (cs : List ℕ) → DoneOrFails (record { at = at; rest = cs }) same DigitsRead DigitsFail (digits (record { at = at; rest = cs }))
    on at [] = record { front = []; stop = record { at = at; rest = [] }; goes = stays (record { at = at; rest = [] }); start = refl; end = refl; fault = (refl, refl) }
    on at (c ∷ cs) =
        let p : Place = record { at = at; rest = c ∷ cs } in
        reads_if p same DigitsRead DigitsFail (is_ascii_digit c) _ _
        (λ e. let d = past_reads class.Digit (step at c) cs in
        record { front = c ∷ d.front; goes = goes_step at c cs d.front (past class.Digit (step at c) cs) d.goes; good = ((e, d.each), d.ends) })
        (λ e. record { front = []; stop = p; goes = stays p; start = refl; end = refl; fault = (refl, (refl, e)) })

-- ---- whole numbers

abbrev pub WholeRead : List ℕ → Place → Type 0
WholeRead cs q = IsWhole cs × NextIsNot is_ascii_digit q.rest

abbrev pub IsUnexpected : LexerError → List ℕ → Type 0
IsUnexpected (UnexpectedCharacter c) rest = NextIs c rest × (is_ascii_digit c ≡ true)
IsUnexpected _ rest = ⊥

abbrev pub WholeFails : LexerError → List ℕ → List ℕ → Type 0
WholeFails e cs rest = ((cs ≡ []) × LacksDigit e rest) ⊎ ((cs ≡ 48 ∷ []) × IsUnexpected e rest)

abbrev pub NoDigitFails : LexerError → List ℕ → List ℕ → Type 0
NoDigitFails e cs rest = (cs ≡ []) × IsUnexpected e rest

abbrev pub NoDigitRead : List ℕ → Place → Type 0
NoDigitRead cs q = (cs ≡ []) × NextIsNot is_ascii_digit q.rest

no_digit_reads : (p : Place) → DoneOrFails p same NoDigitRead NoDigitFails (no_digit p)
unfolding no_digit
no_digit_reads p = on p.at p.rest
  where
    on : (at : SourcePosition) (cs : List ℕ) → DoneOrFails (record { at = at; rest = cs }) same NoDigitRead NoDigitFails (no_digit (record { at = at; rest = cs }))
    on at [] = record { front = []; goes = stays (record { at = at; rest = [] }); good = (refl, tt) }
    on at (c ∷ cs) =
        let p : Place = record { at = at; rest = c ∷ cs } in
        reads_if p same NoDigitRead NoDigitFails (is_ascii_digit c) _ _
        (λ e. record { front = []; stop = p; goes = stays p; start = refl; end = refl; fault = (refl, (refl, e)) })
        (λ e. record { front = []; goes = stays p; good = (refl, e) })

pub whole_reads : (p : Place) → DoneOrFails p same WholeRead WholeFails (whole p)
unfolding whole
whole_reads p = on p.at p.rest
  where
    on : (at : SourcePosition) (cs : List ℕ) → DoneOrFails (record { at = at; rest = cs }) same WholeRead WholeFails (whole (record { at = at; rest = cs }))
    on at [] = record { front = []; stop = record { at = at; rest = [] }; goes = stays (record { at = at; rest = [] }); start = refl; end = refl; fault = inl (refl, refl) }
    on at (c ∷ cs) =
        let p : Place = record { at = at; rest = c ∷ cs } in
        let q : Place = record { at = step at c; rest = cs } in
        reads_if p same WholeRead WholeFails (c == 48) _ _
        (λ e.
        let z : c ≡ 48 = eqb-true c 48 e in
        reads_on p q (c ∷ []) same WholeRead WholeFails (no_digit q) (goes_one at c cs)
        (reads_map q same NoDigitRead (λ b x. WholeRead ((c ∷ []) ++ b) x) NoDigitFails (λ e b rest. WholeFails e ((c ∷ []) ++ b) rest) (no_digit q) (no_digit_reads q)
        (λ a x i g. (inl (cc), g.1))
        (λ e a rest i f. inr (cc, f.1))))
        (λ e. reads_map p same DigitsRead WholeRead DigitsFail WholeFails (digits p) (digits_reads p)
        (λ a x i g. (inr (g.0, not_zero a x.rest i g.0 e), g.1))
        (λ e a rest i f. inl f))
      where
        not_zero : (a rest : List ℕ) → c ∷ cs ≡ a ++ rest → IsDigits a → (c == 48) ≡ false → NextIsNot (λ d. d == 48) a
        not_zero [] rest i d e = absurd d
        not_zero (b ∷ bs) rest i d e = let s : c ≡ b = cc in subst (λ z. (z == 48) ≡ false) s e

-- ---- fractions and exponents

abbrev pub FractionRead : List ℕ → Place → Type 0
FractionRead cs q = ((cs ≡ []) × NextIsNot (is_in class.Point) q.rest) ⊎ (IsFraction cs × NextIsNot is_ascii_digit q.rest)

abbrev pub FractionFails : LexerError → List ℕ → List ℕ → Type 0
FractionFails e cs rest = (cs ≡ 46 ∷ []) × LacksDigit e rest

pub fraction_reads : (p : Place) → DoneOrFails p same FractionRead FractionFails (fraction p)
unfolding fraction
fraction_reads p =
    reads_if p same FractionRead FractionFails (begins class.Point p) _ _
    (λ e.
    let o = past_one_true class.Point p e in
    let q = past_one class.Point p in
    let z : o.head ≡ 46 = eqb-true o.head 46 o.is_of in
    reads_on p q (o.head ∷ []) same FractionRead FractionFails (digits q) o.goes
    (reads_map q same DigitsRead (λ b x. FractionRead ((o.head ∷ []) ++ b) x) DigitsFail (λ e b rest. FractionFails e ((o.head ∷ []) ++ b) rest) (digits q) (digits_reads q)
    (λ a x i g. inr (record { digits = a; is = ap (λ z. z ∷ a) z; digits_are = g.0 }, g.1))
    (λ e a rest i f. (cc, f.1))))
    (λ e. record { front = []; goes = stays p; good = inl (refl, begins_false class.Point p e) })

abbrev pub ExponentRead : List ℕ → Place → Type 0
ExponentRead cs q = ((cs ≡ []) × NextIsNot (is_in class.Exponent) q.rest) ⊎ (IsExponent cs × NextIsNot is_ascii_digit q.rest)

-- the letter of an exponent, and a sign or none
pub record StartsExponent (cs rest : List ℕ) : Type 0 where
  pub letter : ℕ
  pub sign : List ℕ
  pub is : cs ≡ letter ∷ sign
  pub letter_is : is_in class.Exponent letter ≡ true
  pub sign_is : IsOptional class.Sign sign
  pub no_sign : (sign ≡ []) → NextIsNot (is_in class.Sign) rest

abbrev pub ExponentFails : LexerError → List ℕ → List ℕ → Type 0
ExponentFails e cs rest = StartsExponent cs rest × LacksDigit e rest

pub exponent_reads : (p : Place) → DoneOrFails p same ExponentRead ExponentFails (exponent p)
unfolding exponent
exponent_reads p =
    reads_if p same ExponentRead ExponentFails (begins class.Exponent p) _ _
    (λ e.
    let o = past_one_true class.Exponent p e in
    let q = past_one class.Exponent p in
    let m = past_one_reads class.Sign q in
    let r = past_one class.Sign q in
    let first : BeginsExponent (o.head ∷ m.front) = record { letter = o.head; sign = m.front; is = refl; letter_is = o.is_of; sign_is = m.is } in
    reads_on p r (o.head ∷ m.front) same ExponentRead ExponentFails (digits r) (goes_then p q r (o.head ∷ []) m.front o.goes m.goes)
    (reads_map r same DigitsRead (λ b x. ExponentRead ((o.head ∷ m.front) ++ b) x) DigitsFail (λ e b rest. ExponentFails e ((o.head ∷ m.front) ++ b) rest) (digits r) (digits_reads r)
    (λ a x i g. inr (record { front = o.head ∷ m.front; digits = a; is = refl; begins = first; digits_are = g.0 }, g.1))
    (λ e a rest i f.
    let at_rest : r.rest ≡ rest = i ∙ ap (λ z. z ++ rest) f.0 in
    let is : (o.head ∷ m.front) ++ a ≡ o.head ∷ m.front = ap (λ z. (o.head ∷ m.front) ++ z) f.0 ∙ append-nil (o.head ∷ m.front) in
    let no_sign : (m.front ≡ []) → NextIsNot (is_in class.Sign) rest = λ z. subst (NextIsNot (is_in class.Sign)) (m.goes.is ∙ ap (λ v. v ++ r.rest) z ∙ at_rest) (m.ends z) in
    (record { letter = o.head; sign = m.front; is = is; letter_is = o.is_of; sign_is = m.is; no_sign = no_sign }, f.1))))
    (λ e. record { front = []; goes = stays p; good = inl (refl, begins_false class.Exponent p e) })

-- ---- numbers

begins_true : (k : Class) (p : Place) (c : ℕ) (cs : List ℕ) → p.rest ≡ c ∷ cs → is_in k c ≡ true → begins k p ≡ true
unfolding begins
begins_true k p c cs = on p.at p.rest
  where
    on : (at : SourcePosition) (ds : List ℕ) → ds ≡ c ∷ cs → is_in k c ≡ true → begins k (record { at = at; rest = ds }) ≡ true
    on at [] e h = absurd (cc)
    on at (d ∷ ds) e h = let s : c ≡ d = cc in subst (λ z. is_in k z ≡ true) s h

has_exponent-append : (xs ys : List ℕ) → HasExponent ys → HasExponent (xs ++ ys)
has_exponent-append [] ys h = h
has_exponent-append (x ∷ xs) ys h = inr (has_exponent-append xs ys h)

exponent_has : (cs : List ℕ) → IsExponent cs → HasExponent cs
exponent_has cs x = subst HasExponent (sym (x.is ∙ ap (λ z. z ++ x.digits) x.begins.is)) (inl x.begins.letter_is)

abbrev pub NumberRead : List ℕ → Token × Place → Type 0
NumberRead cs r = Spells r.0 cs × Ends r.0 cs r.1.rest

-- the token of a number, by whether it is no integer
abbrev number_token : Bool → List ℕ → Token
number_token is_float text = cond is_float (Scalar (Float (encode_utf8_all text))) (Scalar (Int (encode_utf8_all text)))

number_good : (w f e : Place) (s a b c : List ℕ) → IsOptional class.Minus s → IsWhole a → w.rest ≡ b ++ f.rest → f.rest ≡ c ++ e.rest → NextIsNot is_ascii_digit w.rest → FractionRead b f → ExponentRead c e → NumberRead (s ++ (a ++ (b ++ c))) (number_token (begins class.Point w || begins class.Exponent w) (s ++ (a ++ (b ++ c))), e)
number_good w f e s a [] [] s_is a_is wf fe no_digit (inl (z, no_point)) (inl (y, no_exponent)) =
    let we : w.rest ≡ e.rest = wf ∙ fe in
    let wp : begins class.Point w ≡ false = begins_not class.Point w (subst (NextIsNot (is_in class.Point)) (sym wf) no_point) in
    let wx : begins class.Exponent w ≡ false = begins_not class.Exponent w (subst (NextIsNot (is_in class.Exponent)) (sym we) no_exponent) in
    let t : (begins class.Point w || begins class.Exponent w) ≡ false = ap (λ b. b || begins class.Exponent w) wp ∙ wx in
    let cs = s ++ (a ++ []) in
    let P : Bool → Type 0 = λ b. NumberRead cs (number_token b cs, e) in
    let whole : IsInteger cs = record { sign = s; whole = a; is = ap (λ z. s ++ z) (append-nil a); sign_is = s_is; whole_is = a_is } in
    subst P (sym t) ((whole, refl), (subst (NextIsNot is_ascii_digit) we no_digit, subst (NextIsNot (is_in class.Point)) fe no_point, no_exponent))
number_good w f e s a [] [] s_is a_is wf fe no_digit (inr (x, n)) y = absurd (let q = x.is in cc)
number_good w f e s a [] [] s_is a_is wf fe no_digit (inl x) (inr (y, n)) = absurd (exponent_has [] y)
number_good w f e s a [] (x ∷ c) s_is a_is wf fe no_digit (inr (y, n)) z = absurd (let q = y.is in cc)
number_good w f e s a [] (x ∷ c) s_is a_is wf fe no_digit (inl y) (inl (z, n)) = absurd (cc)
number_good w f e s a [] (x ∷ c) s_is a_is wf fe no_digit (inl (y, no_point)) (inr (z, n)) =
    let head : x ≡ z.begins.letter = let q = z.is ∙ ap (λ v. v ++ z.digits) z.begins.is in cc in
    let wx : begins class.Exponent w ≡ true = begins_true class.Exponent w x (c ++ e.rest) (wf ∙ fe) (subst (λ v. is_in class.Exponent v ≡ true) (sym head) z.begins.letter_is) in
    let wp : begins class.Point w ≡ false = begins_not class.Point w (subst (NextIsNot (is_in class.Point)) (sym wf) no_point) in
    let t : (begins class.Point w || begins class.Exponent w) ≡ true = ap (λ b. b || begins class.Exponent w) wp ∙ wx in
    let cs = s ++ (a ++ (x ∷ c)) in
    let P : Bool → Type 0 = λ b. NumberRead cs (number_token b cs, e) in
    let float : IsFloat cs = record { integer = s ++ a; fraction = []; exponent = x ∷ c; is = sym (append_assoc s a (x ∷ c)); integer_is = record { sign = s; whole = a; is = refl; sign_is = s_is; whole_is = a_is }; fraction_is = inl refl; exponent_is = inr z; one = inr z } in
    subst P (sym t) ((float, refl), (n, inl (has_exponent-append s (a ++ (x ∷ c)) (has_exponent-append a (x ∷ c) (exponent_has (x ∷ c) z)))))
number_good w f e s a (d ∷ b) c s_is a_is wf fe no_digit (inl (y, n)) z = absurd (cc)
number_good w f e s a (d ∷ b) c s_is a_is wf fe no_digit (inr (y, no_more)) z =
    let head : d ≡ 46 = let q = y.is in cc in
    let wp : begins class.Point w ≡ true = begins_true class.Point w d (b ++ f.rest) wf (subst (λ v. is_in class.Point v ≡ true) (sym head) refl) in
    let t : (begins class.Point w || begins class.Exponent w) ≡ true = ap (λ b. b || begins class.Exponent w) wp in
    let cs = s ++ (a ++ ((d ∷ b) ++ c)) in
    let P : Bool → Type 0 = λ b. NumberRead cs (number_token b cs, e) in
    let float : (IsOption : (c ≡ []) ⊎ IsExponent c) → IsFloat cs = λ x. record { integer = s ++ a; fraction = d ∷ b; exponent = c; is = sym (append_assoc s a ((d ∷ b) ++ c)); integer_is = record { sign = s; whole = a; is = refl; sign_is = s_is; whole_is = a_is }; fraction_is = inr y; exponent_is = x; one = inl y } in
    subst P (sym t) (with_exponent z float)
  where
    with_exponent : ExponentRead c e → (((c ≡ []) ⊎ IsExponent c) → IsFloat (s ++ (a ++ ((d ∷ b) ++ c)))) → NumberRead (s ++ (a ++ ((d ∷ b) ++ c))) (Scalar (Float (encode_utf8_all (s ++ (a ++ ((d ∷ b) ++ c))))), e)
    with_exponent (inl (x, n)) float = ((float (inl x), refl), (subst (NextIsNot is_ascii_digit) (fe ∙ ap (λ v. v ++ e.rest) x) no_more, inr n))
    with_exponent (inr (x, n)) float = ((float (inr x), refl), (n, inl (has_exponent-append s (a ++ ((d ∷ b) ++ c)) (has_exponent-append a ((d ∷ b) ++ c) (has_exponent-append (d ∷ b) c (exponent_has c x))))))

-- ---- faults

lacks_fault : (e : LexerError) (cs rest : List ℕ) → NeedsDigit cs rest → LacksDigit e rest → IsFault e cs rest
lacks_fault (UnexpectedCharacter c) cs rest n l = inr (inl (n, l.0, l.1))
lacks_fault UnexpectedEndOfFile cs rest n l = (l, inl n)
lacks_fault (UnknownCharacter c) cs rest n l = absurd l
lacks_fault UnterminatedString cs rest n l = absurd l
lacks_fault (UnknownCharacterInString c) cs rest n l = absurd l
lacks_fault (UnknownEscapeSequence t) cs rest n l = absurd l
lacks_fault InvalidNumber cs rest n l = absurd l
lacks_fault Memory cs rest n l = absurd l

zero_fault : (e : LexerError) (cs rest : List ℕ) → IsZero cs → IsUnexpected e rest → IsFault e cs rest
zero_fault (UnexpectedCharacter c) cs rest n l = inr (inr (n, l.0, l.1))
zero_fault UnexpectedEndOfFile cs rest n l = absurd l
zero_fault (UnknownCharacter c) cs rest n l = absurd l
zero_fault UnterminatedString cs rest n l = absurd l
zero_fault (UnknownCharacterInString c) cs rest n l = absurd l
zero_fault (UnknownEscapeSequence t) cs rest n l = absurd l
zero_fault InvalidNumber cs rest n l = absurd l
zero_fault Memory cs rest n l = absurd l

-- a text that begins with a digit lacks none
lacks_none : (e : LexerError) (c : ℕ) (cs : List ℕ) → is_ascii_digit c ≡ true → LacksDigit e (c ∷ cs) → ⊥
lacks_none (UnexpectedCharacter d) c cs h l = let s : is_ascii_digit d ≡ is_ascii_digit c = ap is_ascii_digit l.0 in let t = l.1 in cc
lacks_none UnexpectedEndOfFile c cs h l = cc
lacks_none (UnknownCharacter d) c cs h l = l
lacks_none UnterminatedString c cs h l = l
lacks_none (UnknownCharacterInString d) c cs h l = l
lacks_none (UnknownEscapeSequence t) c cs h l = l
lacks_none InvalidNumber c cs h l = l
lacks_none Memory c cs h l = l

-- the characters of a number begin with a digit or a minus
abbrev pub BeginsNumber : List ℕ → Type 0
BeginsNumber [] = ⊥
BeginsNumber (c ∷ cs) = (is_ascii_digit c || c == 45) ≡ true

whole_fault : (e : LexerError) (cs s a rest : List ℕ) → BeginsNumber cs → cs ≡ (s ++ a) ++ rest → IsOptional class.Minus s → ((s ≡ []) → NextIsNot (is_in class.Minus) cs) → WholeFails e a rest → IsFault e (s ++ a) rest
whole_fault e [] s a rest b is s_is none fails = absurd b
whole_fault e (c ∷ cs) s a rest b is (inl z) none (inl (y, l)) =
    let digit : is_ascii_digit c ≡ true = digit_of (is_ascii_digit c) (c == 45) b (none z) in
    let head : rest ≡ c ∷ cs = sym (is ∙ ap (λ v. (v ++ a) ++ rest) z ∙ ap (λ v. v ++ rest) y) in
    absurd (lacks_none e c cs digit (subst (LacksDigit e) head l))
  where
    digit_of : (x y : Bool) → (x || y) ≡ true → y ≡ false → x ≡ true
    digit_of true y h n = refl
    digit_of false y h n = absurd (cc)
whole_fault e (c ∷ cs) s a rest b is (inr (m, m_is, z)) none (inl (y, l)) =
    let is_minus : s ++ a ≡ 45 ∷ [] = ap (λ v. s ++ v) y ∙ append-nil s ∙ z ∙ ap (λ v. v ∷ []) (eqb-true m 45 m_is) in
    lacks_fault e (s ++ a) rest (inl is_minus) l
whole_fault e (c ∷ cs) s a rest b is s_is none (inr (y, l)) = zero_fault e (s ++ a) rest (s, s_is, ap (λ v. s ++ v) y) l

mantissa_first : (s a b c d : List ℕ) → c ≡ d → s ++ (a ++ (b ++ c)) ≡ ((s ++ a) ++ b) ++ d
mantissa_first s a b c d e = ap (λ z. s ++ z) (sym (append_assoc a b c)) ∙ sym (append_assoc s (a ++ b) c) ∙ ap (λ z. z ++ c) (sym (append_assoc s a b)) ∙ ap (λ z. ((s ++ a) ++ b) ++ z) e

pub number_reads : (p : Place) → BeginsNumber p.rest → DoneOrFails p (λ r. r.1) NumberRead IsFault (number p)
unfolding number
number_reads p b =
    let m = past_one class.Minus p in
    let s = past_one_reads class.Minus p in
    reads_on p m s.front (λ r. r.1) NumberRead IsFault _ s.goes
    (reads_then m same (λ r. r.1) WholeRead (λ x r. NumberRead (s.front ++ x) r) (λ e x rest. IsFault e (s.front ++ x) rest) (whole m) _
    (reads_map m same WholeRead WholeRead WholeFails (λ e x rest. IsFault e (s.front ++ x) rest) (whole m) (whole_reads m)
    (λ a w i g. g)
    (λ e a rest i f. whole_fault e p.rest s.front a rest b (s.goes.is ∙ ap (λ z. s.front ++ z) i ∙ sym (append_assoc s.front a rest)) s.is s.ends f))
    (λ a w mw w_is. reads_then w same (λ r. r.1) FractionRead (λ x r. NumberRead (s.front ++ (a ++ x)) r) (λ e x rest. IsFault e (s.front ++ (a ++ x)) rest) (fraction w) _
    (reads_map w same FractionRead FractionRead FractionFails (λ e x rest. IsFault e (s.front ++ (a ++ x)) rest) (fraction w) (fraction_reads w)
    (λ b f i g. g)
    (λ e b rest i f. lacks_fault e (s.front ++ (a ++ b)) rest (inr (inl (s.front ++ a, record { sign = s.front; whole = a; is = refl; sign_is = s.is; whole_is = w_is.0 }, ap (λ z. s.front ++ (a ++ z)) f.0 ∙ sym (append_assoc s.front a (46 ∷ []))))) f.1))
    (λ b f wf f_is. reads_then f same (λ r. r.1) ExponentRead (λ x r. NumberRead (s.front ++ (a ++ (b ++ x))) r) (λ e x rest. IsFault e (s.front ++ (a ++ (b ++ x))) rest) (exponent f) _
    (reads_map f same ExponentRead ExponentRead ExponentFails (λ e x rest. IsFault e (s.front ++ (a ++ (b ++ x))) rest) (exponent f) (exponent_reads f)
    (λ c e i g. g)
    (λ e c rest i x. lacks_fault e (s.front ++ (a ++ (b ++ c))) rest (inr (inr (record { mantissa = (s.front ++ a) ++ b; letter = x.0.letter; sign = x.0.sign; is = mantissa_first s.front a b c (x.0.letter ∷ x.0.sign) x.0.is; mantissa_is = record { integer = s.front ++ a; fraction = b; is = refl; integer_is = record { sign = s.front; whole = a; is = refl; sign_is = s.is; whole_is = w_is.0 }; fraction_is = fraction_or_none b f f_is }; letter_is = x.0.letter_is; sign_is = x.0.sign_is; no_sign = x.0.no_sign }))) x.1))
    (λ c e fe e_is.
    let front = s.front ++ (a ++ (b ++ c)) in
    let text : between p.rest e.rest ≡ front = between_front p.rest front e.rest ((goes_then p m e s.front (a ++ (b ++ c)) s.goes (goes_then m w e a (b ++ c) mw (goes_then w f e b c wf fe))).is) in
    let nil : front ≡ s.front ++ (a ++ (b ++ (c ++ []))) = ap (λ z. s.front ++ (a ++ (b ++ z))) (sym (append-nil c)) in
    let P : List ℕ → Type 0 = λ t. NumberRead front (number_token (begins class.Point w || begins class.Exponent w) t, e) in
    let Q : List ℕ → Type 0 = λ t. NumberRead t (number_token (begins class.Point w || begins class.Exponent w) (between p.rest e.rest), e) in
    record { front = []; goes = stays e; good = subst Q nil (subst P (sym text) (number_good w f e s.front a b c s.is w_is.0 wf.is fe.is w_is.1 f_is e_is)) }))))
  where
    fraction_or_none : (b : List ℕ) (f : Place) → FractionRead b f → (b ≡ []) ⊎ IsFraction b
    fraction_or_none b f (inl x) = inl x.0
    fraction_or_none b f (inr x) = inr x.0
