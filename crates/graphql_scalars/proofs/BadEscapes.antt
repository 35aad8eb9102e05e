-- A string is refused exactly where an escape in it is bad, and the first bad one is told.
use Rattle.std.proofs.Common.{◌≡◌, ◌⊎◌, ℕ, zero, suc, ◌+◌, ◌*◌, ◌<◌, Bool, true, false, if◌then◌else◌, ◌==◌, Option, Some, None, Result, Ok, Err, List, [], ◌∷◌, ◌++◌, drop, refl, sym, subst, ap, ◌∙◌, arith, append_assoc}
use Rattle.std.specs.Prelude.{◌↔◌, encode_utf8_all}
use Rattle.std.specs.Char.{is_ascii_hexdigit, digit_value}
use Rattle.std.specs.Str.{chars}
use Rattle.std.proofs.lemmas.Bool.Decides.{nat_tests}
use lib.Utf8.{scalar}
use Rattle.graphql_text.specs.Memory.{◌>>=◌}
use Rattle.graphql_text.specs.declared.parse_error.ParseError.{ParseError}
use Rattle.graphql_text.specs.declared.token.ScalarToken.TheVariants as token
use Rattle.graphql_text.specs.Strings.{is_escape}
use Rattle.graphql_text.specs.Grammar.{Piece, character, escaped, code, IsCode, spelling, spellings, hex_value}
use Rattle.graphql_scalars.specs.declared.default_scalar.DefaultScalarValue.TheVariants as scalar_value
use Rattle.graphql_scalars.specs.DefaultScalar.{reads}
use Rattle.graphql_scalars.specs.StringValue.{hex_digit, character as code_point, code_character, escaped_character, escape, code_at, escape_or_refusal, and_then, letters, preceded_by, decoded_behind, decoded_characters, string_value}
use Rattle.graphql_scalars.specs.Laws.{meaning, HasMeaning, HaveMeanings, HasFirstBadEscape, FirstBadEscapeIsTold}
use Rattle.graphql_scalars.proofs.IntLemmas.{equal, different}
use Rattle.graphql_scalars.proofs.StringMeaning.{decoded_piece, hex_value_is}

-- ---- an error stays an error

abbrev failure : {A E : Type 0} → E → Result A E → E
failure d (Ok x) = d
failure d (Err e) = e

same_error : {A E : Type 0} (d e : E) → ◌≡◌ {A = Result A E} (Err d) (Err e) → d ≡ e
same_error d e h = ap (failure d) h

module _ {A B E : Type 0} (f : A → B) where
  error_from : (r : Result A E) (e : E) → (r >>= (λ x. Ok (f x))) ≡ Err e → r ≡ Err e
  error_from (Ok x) e h = absurd (cc)
  error_from (Err d) e h = ap Err (same_error d e h)

  error_to : (r : Result A E) (e : E) → r ≡ Err e → (r >>= (λ x. Ok (f x))) ≡ Err e
  error_to r e h = ap (λ r. r >>= (λ x. Ok (f x))) h

-- ---- what stands for a character is a piece

-- what is wanted of both is there
both_there : {A B : Type 0} (o : Option A) (f : A → Option B) (y : B) → and_then o f ≡ Some y → (x : A) × (o ≡ Some x) × (f x ≡ Some y)
both_there (Some x) f y h = (x, refl, h)
both_there None f y h = absurd (cc)

if_some : {A : Type 0} (b : Bool) (x y : A) → (if b then Some x else None) ≡ Some y → (b ≡ true) × (x ≡ y)
if_some true x y h = (refl, cc)
if_some false x y h = absurd (cc)

hex_digit_of : (c n : ℕ) → hex_digit c ≡ Some n → (is_ascii_hexdigit c ≡ true) × (hex_value c ≡ n)
unfolding hex_digit
hex_digit_of c n h = let p = if_some (is_ascii_hexdigit c) (digit_value c) n h in (p.0, sym (hex_value_is c p.0) ∙ p.1)

single_of : (n m : ℕ) → code_point n ≡ Some m → (n < 0xD800) ⊎ (0xDFFF < n)
unfolding code_point
single_of n m h = let p = if_some (scalar n) n m h in let s = p.0 in grind (arith, nat_tests)

digits_of_code : (a b c d w x y z m : ℕ) → hex_digit a ≡ Some w → hex_digit b ≡ Some x → hex_digit c ≡ Some y → hex_digit d ≡ Some z
    → code_point (4096 * w + 256 * x + 16 * y + z) ≡ Some m → IsCode (a ∷ b ∷ c ∷ d ∷ [])
digits_of_code a b c d w x y z m at_a at_b at_c at_d h =
    let (is_a, value_a) = hex_digit_of a w at_a in
    let (is_b, value_b) = hex_digit_of b x at_b in
    let (is_c, value_c) = hex_digit_of c y at_c in
    let (is_d, value_d) = hex_digit_of d z at_d in
    let value : 4096 * w + 256 * x + 16 * y + z ≡ 4096 * hex_value a + 256 * hex_value b + 16 * hex_value c + hex_value d = omega arith in
    ((is_a, (is_b, (is_c, (is_d, tt)))), subst (λ n. (n < 0xD800) ⊎ (0xDFFF < n)) value (single_of (4096 * w + 256 * x + 16 * y + z) m h))

code_of : (a b c d m : ℕ) → code_character a b c d ≡ Some m → IsCode (a ∷ b ∷ c ∷ d ∷ [])
code_of a b c d m h =
    let (w, at_a, in_b) = both_there (hex_digit a) (λ w. and_then (hex_digit b) (λ x. and_then (hex_digit c) (λ y. and_then (hex_digit d) (λ z. code_point (4096 * w + 256 * x + 16 * y + z))))) m h in
    let (x, at_b, in_c) = both_there (hex_digit b) (λ x. and_then (hex_digit c) (λ y. and_then (hex_digit d) (λ z. code_point (4096 * w + 256 * x + 16 * y + z)))) m in_b in
    let (y, at_c, in_d) = both_there (hex_digit c) (λ y. and_then (hex_digit d) (λ z. code_point (4096 * w + 256 * x + 16 * y + z))) m in_c in
    let (z, at_d, whole) = both_there (hex_digit d) (λ z. code_point (4096 * w + 256 * x + 16 * y + z)) m in_d in
    digits_of_code a b c d w x y z m at_a at_b at_c at_d whole

-- a piece that a backslash and what stands behind it begin with, of n characters behind the backslash
record Begins (rest : List ℕ) (n : ℕ) : Type 0 where
  pub piece : Piece
  pub has : HasMeaning piece
  pub is : 92 ∷ rest ≡ spelling piece ++ drop n rest

answered : (o : Option ℕ) (k : ℕ) (cs : List ℕ) (m n : ℕ) → escape_or_refusal o k cs ≡ Ok (m, n) → (o ≡ Some m) × (k ≡ n)
answered (Some c) k cs m n h = (ap first h, ap second h)
  where
    first : Result (ℕ × ℕ) ParseError → Option ℕ
    first (Ok p) = Some p.0
    first (Err e) = None

    second : Result (ℕ × ℕ) ParseError → ℕ
    second (Ok p) = p.1
    second (Err e) = 0
answered None k cs m n h = absurd (cc)

code_begins : (cs : List ℕ) (m : ℕ) → code_at cs ≡ Some m → Begins (117 ∷ cs) 5
code_begins [] m h = absurd (cc)
code_begins (a ∷ []) m h = absurd (cc)
code_begins (a ∷ b ∷ []) m h = absurd (cc)
code_begins (a ∷ b ∷ c ∷ []) m h = absurd (cc)
code_begins (a ∷ b ∷ c ∷ d ∷ cs) m h = record { piece = code a b c d; has = code_of a b c d m h; is = refl }

escaped_of : (c m : ℕ) → escaped_character c ≡ Some m → is_escape c ≡ true
escaped_of c m h = grind (arith, nat_tests)

begins_by : (b : Bool) (c : ℕ) (cs : List ℕ) (m n : ℕ) → (c == 117) ≡ b
    → (if b then escape_or_refusal (code_at cs) 5 (117 ∷ letters 4 cs) else escape_or_refusal (escaped_character c) 1 (c ∷ [])) ≡ Ok (m, n) → Begins (c ∷ cs) n
begins_by true c cs m n is h =
    let p = answered (code_at cs) 5 (117 ∷ letters 4 cs) m n h in
    subst (λ x. Begins (x ∷ cs) n) (sym (equal c 117 is)) (subst (λ k. Begins (117 ∷ cs) k) p.1 (code_begins cs m p.0))
begins_by false c cs m n is h =
    let p = answered (escaped_character c) 1 (c ∷ []) m n h in
    subst (λ k. Begins (c ∷ cs) k) p.1 (record { piece = escaped c; has = escaped_of c m p.0; is = refl })

escape_begins : (rest : List ℕ) (m n : ℕ) → escape rest ≡ Ok (m, n) → Begins rest n
unfolding escape
escape_begins [] m n h = absurd (cc)
escape_begins (c ∷ cs) m n h = begins_by (c == 117) c cs m n refl h

-- ---- from the refusal to the escape

-- one more piece in front
behind_piece : (x : Piece) (cs rest : List ℕ) (e : ParseError) → HasMeaning x → cs ≡ spelling x ++ rest → HasFirstBadEscape rest e → HasFirstBadEscape cs e
behind_piece x cs rest e has is first = record {
  front = x ∷ first.front;
  behind = first.behind;
  have = (has, first.have);
  is = is ∙ ap (λ l. spelling x ++ l) first.is ∙ sym (append_assoc (spelling x) (spellings first.front) (92 ∷ first.behind));
  bad = first.bad;
}

preceded_error : (c : ℕ) (r : Result (List ℕ) ParseError) (e : ParseError) → preceded_by c r ≡ Err e → r ≡ Err e
preceded_error c r e h = error_from (λ cs. c ∷ cs) r e h

-- what is refused behind the first n characters has its first bad escape there
abbrev IsRefusedLater : List ℕ → ParseError → Type 0
IsRefusedLater cs e = (n : ℕ) → decoded_behind n cs ≡ Err e → HasFirstBadEscape (drop n cs) e

refused_behind : (r : Result (ℕ × ℕ) ParseError) (cs : List ℕ) (e : ParseError) → IsRefusedLater cs e → escape cs ≡ r
    → (r >>= (λ (p : ℕ × ℕ). preceded_by p.0 (decoded_behind p.1 cs))) ≡ Err e → HasFirstBadEscape (92 ∷ cs) e
refused_behind (Ok (m, n)) cs e later is h =
    let begins = escape_begins cs m n is in
    behind_piece begins.piece (92 ∷ cs) (drop n cs) e begins.has begins.is (later n (preceded_error m (decoded_behind n cs) e h))
refused_behind (Err d) cs e later is h = record { front = []; behind = cs; have = tt; is = refl; bad = is ∙ ap Err (same_error d e h) }

refused_by : (b : Bool) (c : ℕ) (cs : List ℕ) (e : ParseError) → IsRefusedLater cs e → (c == 92) ≡ b
    → (if b then escape cs >>= (λ (p : ℕ × ℕ). preceded_by p.0 (decoded_behind p.1 cs)) else preceded_by c (decoded_behind 0 cs)) ≡ Err e → HasFirstBadEscape (c ∷ cs) e
refused_by true c cs e later is h = subst (λ x. HasFirstBadEscape (x ∷ cs) e) (sym (equal c 92 is)) (refused_behind (escape cs) cs e later refl h)
refused_by false c cs e later is h =
    behind_piece (character c) (c ∷ cs) cs e (different c 92 is) refl (later 0 (preceded_error c (decoded_behind 0 cs) e h))

refused_at : (n : ℕ) (cs : List ℕ) (e : ParseError) → decoded_behind n cs ≡ Err e → HasFirstBadEscape (drop n cs) e
refused_at n [] e h = absurd (cc)
refused_at (suc n) (c ∷ cs) e h = refused_at n cs e h
refused_at zero (c ∷ cs) e h = refused_by (c == 92) c cs e (λ n h. refused_at n cs e h) refl h

-- ---- from the escape to the refusal

told_by : (front : List Piece) (behind : List ℕ) (e : ParseError) → HaveMeanings front → escape behind ≡ Err e
    → decoded_characters (spellings front ++ 92 ∷ behind) ≡ Err e
told_by [] behind e have bad = ap (λ (r : Result (ℕ × ℕ) ParseError). r >>= (λ (p : ℕ × ℕ). preceded_by p.0 (decoded_behind p.1 behind))) bad
told_by (x ∷ xs) behind e have bad =
    ap decoded_characters (append_assoc (spelling x) (spellings xs) (92 ∷ behind))
    ∙ decoded_piece x (spellings xs ++ 92 ∷ behind) have.0
    ∙ ap (preceded_by (meaning x)) (told_by xs behind e have.1 bad)

-- ---- whole texts

refused_iff : (text : List ℕ) (e : ParseError) → (reads (token.String text) ≡ Err e) ↔ (decoded_characters (chars text) ≡ Err e)
unfolding string_value
refused_iff text e = (
  (λ h. error_from encode_utf8_all (decoded_characters (chars text)) e (error_from scalar_value.String (string_value text) e h)),
  (λ h. error_to scalar_value.String (string_value text) e (error_to encode_utf8_all (decoded_characters (chars text)) e h)),
)

pub first_bad_escape_is_told : FirstBadEscapeIsTold
first_bad_escape_is_told text e =
    let p = refused_iff text e in (
      (λ h. refused_at 0 (chars text) e (p.0 h)),
      (λ first. p.1 (ap decoded_characters first.is ∙ told_by first.front first.behind e first.have first.bad)),
    )
