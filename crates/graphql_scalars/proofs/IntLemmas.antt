-- The number of a text, from what the standard library reads.
use Rattle.std.proofs.Common.{◌≡◌, ◌≢◌, ℕ, suc, ◌^◌, ℤ, pos, negsuc, neg_ℤ, ◌<◌, ◌≤◌, nat_le, ◌==◌, Bool, if◌then◌else◌, ◌&&◌, true, false, Option, Some, None, Result, Ok, Err, List, [], ◌∷◌, length, get_or, refl, sym, ap, subst, ◌∙◌, arith}
use Rattle.std.specs.Prelude.{FitsSigned}
use Rattle.std.specs.Char.{is_ascii_digit}
use Rattle.std.specs.Fmt.{decimal, signed_decimal}
use Rattle.std.specs.Option.{option_map}
use Rattle.std.specs.Str.{all_ascii_digits}
use Rattle.std.specs.Str.Parse.{digits_value, ParsesSigned}
use Rattle.std.proofs.lemmas.Bool.{and_parts}
use Rattle.std.proofs.lemmas.Bool.Decides.{nat_tests}
use Rattle.std.proofs.lemmas.Fmt.{digits_decimal, digits_value-decimal, decimal_nonempty}
use Rattle.std.proofs.lemmas.Str.Parse.{IsNumeralModel, numerals_by_value, tells_all_ascii_digits, parse_signed_minus, parse_signed_plain}
use mir.Syntax.{w32}
use Rattle.graphql_text.specs.declared.token.ScalarToken.TheVariants as token
use Rattle.graphql_scalars.specs.declared.default_scalar.DefaultScalarValue.TheVariants as scalar
use Rattle.graphql_scalars.specs.Literals.{int_or, unexpected_token}
use Rattle.graphql_scalars.specs.IntValue.{natural_up_to, int_value}
use Rattle.graphql_scalars.specs.Laws.{IsReadBack}

-- ---- the test whether numbers are equal

pub equal : (a b : ℕ) → (a == b) ≡ true → a ≡ b
equal a b h = grind (arith, nat_tests)

pub different : (a b : ℕ) → (a == b) ≡ false → a ≢ b
different a b h = grind (arith, nat_tests)

pub unlike : (a b : ℕ) → a ≢ b → (a == b) ≡ false
unlike a b h = grind (arith, nat_tests)

-- ---- numbers of digits

abbrev pub AreDigits : List ℕ → Type 0
AreDigits ds = all_ascii_digits ds ≡ true

pub numerals : IsNumeralModel AreDigits (digits_value 10)
numerals = numerals_by_value AreDigits tells_all_ascii_digits

both : {A : Type 0} (a b : Bool) (x : A) → a ≡ true → b ≡ true → (if a && b then Some x else None) ≡ Some x
both a b x p q = cc (ap (λ t. if t && b then Some x else None) p, ap (λ t. if true && t then Some x else None) q)

not_both : {A : Type 0} (a b : Bool) (x : A) → ¬ ((a ≡ true) × (b ≡ true)) → (if a && b then Some x else None) ≡ None
not_both true true x h = absurd (h (refl, refl))
not_both true false x h = refl
not_both false b x h = refl

within : (n most : ℕ) → n ≤ most → nat_le n most ≡ true
within n most h = grind (arith, nat_tests)

within_is : (n most : ℕ) → nat_le n most ≡ true → n ≤ most
within_is n most h = grind (arith, nat_tests)

pub natural_some : (most : ℕ) (ds : List ℕ) → AreDigits ds → 0 < length ds → digits_value 10 ds ≤ most → natural_up_to most ds ≡ Some (digits_value 10 ds)
natural_some most [] are one le = absurd (omega arith)
natural_some most (d ∷ ds) are one le = both (all_ascii_digits (d ∷ ds)) (nat_le (digits_value 10 (d ∷ ds)) most) (digits_value 10 (d ∷ ds)) are (within _ _ le)

natural_none : (most : ℕ) (ds : List ℕ) → ¬ (AreDigits ds × (0 < length ds) × (digits_value 10 ds ≤ most)) → natural_up_to most ds ≡ None
natural_none most [] refused = refl
natural_none most (d ∷ ds) refused =
    not_both (all_ascii_digits (d ∷ ds)) (nat_le (digits_value 10 (d ∷ ds)) most) (digits_value 10 (d ∷ ds)) (λ h. refused (h.0, omega arith, within_is _ _ h.1))

-- what is read, as an option
abbrev pub read : {E : Type 0} → Result ℤ E → Option ℤ
read (Ok z) = Some z
read (Err e) = None

minus : {E : Type 0} (cs : List ℕ) (r : Result ℤ E) → ParsesSigned w32 10 (45 ∷ cs) r → read r ≡ int_value (45 ∷ cs)
unfolding int_value
minus {E = E} cs (Ok z) h =
    let p = parse_signed_minus numerals {E = E} w32 (45 ∷ cs) (Ok z) h refl in
    ap Some p.1 ∙ sym (ap (option_map (λ n. neg_ℤ (pos n))) (natural_some 2147483648 cs p.0.0 p.0.1 p.0.2))
minus {E = E} cs (Err e) h =
    let p = parse_signed_minus numerals {E = E} w32 (45 ∷ cs) (Err e) h refl in
    sym (ap (option_map (λ n. neg_ℤ (pos n))) (natural_none 2147483648 cs p))

-- the branch without a minus
no_minus : (c : ℕ) (cs : List ℕ) → c ≢ 45 → int_value (c ∷ cs) ≡ option_map pos (natural_up_to 2147483647 (c ∷ cs))
unfolding int_value
no_minus c cs h = rw (unlike c 45 h) refl

plain : {E : Type 0} (c : ℕ) (cs : List ℕ) (r : Result ℤ E) → ParsesSigned w32 10 (c ∷ cs) r → c ≢ 45 → c ≢ 43 → read r ≡ int_value (c ∷ cs)
plain {E = E} c cs (Ok z) h minus_is_none plus_is_none =
    let p = parse_signed_plain numerals {E = E} w32 (c ∷ cs) (Ok z) h plus_is_none minus_is_none in
    ap Some p.1 ∙ sym (no_minus c cs minus_is_none ∙ ap (option_map pos) (natural_some 2147483647 (c ∷ cs) p.0.0 p.0.1 (omega (arith, p.0.2))))
plain {E = E} c cs (Err e) h minus_is_none plus_is_none =
    let p = parse_signed_plain numerals {E = E} w32 (c ∷ cs) (Err e) h plus_is_none minus_is_none in
    sym (no_minus c cs minus_is_none ∙ ap (option_map pos) (natural_none 2147483647 (c ∷ cs) (λ q. p (q.0, q.1, omega (arith, q.2)))))

pub int_value_plus : (text : List ℕ) → (get_or text 0 0 == 43) ≡ true → int_value text ≡ None
unfolding int_value
int_value_plus [] e = refl
int_value_plus (c ∷ cs) e = let h : c ≡ 43 = grind (arith, nat_tests) in rw h refl

by_sign : {E : Type 0} (b : Bool) (c : ℕ) (cs : List ℕ) (r : Result ℤ E) → (c == 45) ≡ b → ParsesSigned w32 10 (c ∷ cs) r → c ≢ 43 → read r ≡ int_value (c ∷ cs)
by_sign {E = E} true c cs r is h plus = subst (λ x. ParsesSigned {E = E} w32 10 (x ∷ cs) r → read r ≡ int_value (x ∷ cs)) (sym (equal c 45 is)) (minus cs r) h
by_sign {E = E} false c cs r is h plus = plain c cs r h (different c 45 is) plus

pub int_value_read : {E : Type 0} (text : List ℕ) (r : Result ℤ E) → ParsesSigned w32 10 text r → (get_or text 0 0 == 43) ≡ false → read r ≡ int_value text
unfolding int_value
int_value_read {E = E} [] (Ok z) h e = absurd (omega (arith, h.0.0.0))
int_value_read {E = E} [] (Err f) h e = refl
int_value_read {E = E} (c ∷ cs) r h e = by_sign (c == 45) c cs r refl h (different c 43 e)

-- ---- the text of an integer

decimal_natural : (n most : ℕ) → n < 2 ^ 64 → n ≤ most → natural_up_to most (decimal n) ≡ Some n
decimal_natural n most small h =
    let value : digits_value 10 (decimal n) ≡ n = digits_value-decimal numerals n small in
    natural_some most (decimal n) (digits_decimal numerals n small) (decimal_nonempty n small) (omega arith) ∙ ap Some value

digit_is_no_minus : (d : ℕ) (ds : List ℕ) → AreDigits (d ∷ ds) → d ≢ 45
digit_is_no_minus d ds h = let p = and_parts (is_ascii_digit d) (all_ascii_digits ds) h in let q : is_ascii_digit d ≡ true = p.0 in grind (arith, nat_tests)

value_of_digits : (ds : List ℕ) → AreDigits ds → 0 < length ds → int_value ds ≡ option_map pos (natural_up_to 2147483647 ds)
value_of_digits [] are some = absurd (omega arith)
value_of_digits (d ∷ ds) are some = no_minus d ds (digit_is_no_minus d ds are)

value_of_minus : (ds : List ℕ) → int_value (45 ∷ ds) ≡ option_map (λ n. neg_ℤ (pos n)) (natural_up_to 2147483648 ds)
unfolding int_value
value_of_minus ds = refl

decimal_value : (z : ℤ) → FitsSigned w32 z → int_value (signed_decimal z) ≡ Some z
decimal_value (pos n) fits =
    let small : n < 2 ^ 64 = omega (arith, fits.sfits) in
    value_of_digits (decimal n) (digits_decimal numerals n small) (decimal_nonempty n small) ∙ ap (option_map pos) (decimal_natural n 2147483647 small (omega (arith, fits.sfits)))
decimal_value (negsuc n) fits =
    let small : suc n < 2 ^ 64 = omega (arith, fits.sfits) in
    value_of_minus (decimal (suc n)) ∙ ap (option_map (λ n. neg_ℤ (pos n))) (decimal_natural (suc n) 2147483648 small (omega (arith, fits.sfits)))

pub integer_reads : (z : ℤ) → FitsSigned w32 z → IsReadBack z
integer_reads z fits = ap (λ o. int_or scalar.Int o (unexpected_token (token.Int (signed_decimal z)))) (decimal_value z fits)
