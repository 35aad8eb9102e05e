-- A string that the grammar spells is read, as the characters that its pieces stand for.
use Rattle.std.proofs.Common.{◌≡◌, ◌⊎◌, inl, inr, ℕ, ◌+◌, ◌*◌, ◌<◌, true, false, if◌then◌else◌, ◌==◌, Some, None, Result, Ok, List, [], ◌∷◌, ◌++◌, map, refl, sym, subst, ap, ◌∙◌, arith}
use Rattle.std.specs.Prelude.{encode_utf8_all}
use Rattle.std.specs.Char.{is_ascii_hexdigit, digit_value}
use Rattle.std.proofs.lemmas.Bool.{and_parts, or_cases, not-true}
use Rattle.std.proofs.lemmas.Bool.Decides.{nat_tests}
use lib.Utf8.{scalar, low_scalar}
use Rattle.graphql_text.specs.Memory.{◌>>=◌}
use Rattle.graphql_text.specs.declared.parse_error.ParseError.{ParseError}
use Rattle.graphql_text.specs.Strings.{is_escape}
use Rattle.graphql_text.specs.Grammar.{Piece, character, escaped, code, ArePieces, IsPiece, IsCode, spelling, spellings, hex_value, is_string_character}
use Rattle.graphql_scalars.specs.StringValue.{hex_digit, character as code_point, code_character, escaped_character, escape, code_at, escape_or_refusal, and_then, letters, preceded_by, decoded_behind, decoded_characters, string_value}
use Rattle.graphql_scalars.specs.declared.default_scalar.DefaultScalarValue.TheVariants as scalar_value
use Rattle.graphql_scalars.specs.Literals.{scalar_of_text}
use Rattle.graphql_scalars.proofs.IntLemmas.{different, unlike}
use Rattle.graphql_scalars.specs.Laws.{meaning, HasMeaning, StringsMeanTheirPieces}

-- ---- a character as it is

plain_is_no_backslash : (c : ℕ) → is_string_character c ≡ true → (c == 92) ≡ false
plain_is_no_backslash c h = let p = and_parts _ _ h in let q = and_parts _ _ p.0 in not-true _ q.1

-- ---- an escape of one character

-- an escape's character is none but `u`, and stands for one
record IsKnown (c : ℕ) : Type 0 where
  pub no_code : (c == 117) ≡ false
  pub stands : escaped_character c ≡ Some (meaning (escaped c))

known_at : (c n : ℕ) → (c == n) ≡ true → IsKnown n → IsKnown c
known_at c n e k = let same : c ≡ n = grind (arith, nat_tests) in subst IsKnown (sym same) k

escape_is_known : (c : ℕ) → is_escape c ≡ true → IsKnown c
escape_is_known c h = elim (or_cases _ _ h) [
  | inr p ↦ known_at c 98 p (record { no_code = refl; stands = refl })
  | inl h ↦ elim (or_cases _ _ h) [
    | inr p ↦ known_at c 102 p (record { no_code = refl; stands = refl })
    | inl h ↦ elim (or_cases _ _ h) [
      | inr p ↦ known_at c 116 p (record { no_code = refl; stands = refl })
      | inl h ↦ elim (or_cases _ _ h) [
        | inr p ↦ known_at c 114 p (record { no_code = refl; stands = refl })
        | inl h ↦ elim (or_cases _ _ h) [
          | inr p ↦ known_at c 110 p (record { no_code = refl; stands = refl })
          | inl h ↦ elim (or_cases _ _ h) [
            | inr p ↦ known_at c 92 p (record { no_code = refl; stands = refl })
            | inl h ↦ elim (or_cases _ _ h) [
              | inr p ↦ known_at c 47 p (record { no_code = refl; stands = refl })
              | inl p ↦ known_at c 34 p (record { no_code = refl; stands = refl })
            ]
          ]
        ]
      ]
    ]
  ]
]

-- ---- a code

pub hex_value_is : (c : ℕ) → is_ascii_hexdigit c ≡ true → digit_value c ≡ hex_value c
hex_value_is c h = grind (arith, nat_tests)

hex_digit_is : (c : ℕ) → is_ascii_hexdigit c ≡ true → hex_digit c ≡ Some (hex_value c)
unfolding hex_digit
hex_digit_is c h = rw h (ap Some (hex_value_is c h))

single_is_scalar : (n : ℕ) → n < 65536 → (n < 0xD800) ⊎ (0xDFFF < n) → scalar n ≡ true
single_is_scalar n small (inl low) = low_scalar n low
single_is_scalar n small (inr high) = grind (arith, nat_tests)

hex_below : (c : ℕ) → is_ascii_hexdigit c ≡ true → hex_value c < 16
hex_below c h = grind (arith, nat_tests)

four : (a b c d w x y z : ℕ) → hex_digit a ≡ Some w → hex_digit b ≡ Some x → hex_digit c ≡ Some y → hex_digit d ≡ Some z
    → code_character a b c d ≡ code_point (4096 * w + 256 * x + 16 * y + z)
four a b c d w x y z p q r s =
    ap (λ o. and_then o (λ w. and_then (hex_digit b) (λ x. and_then (hex_digit c) (λ y. and_then (hex_digit d) (λ z. code_point (4096 * w + 256 * x + 16 * y + z)))))) p
    ∙ ap (λ o. and_then o (λ x. and_then (hex_digit c) (λ y. and_then (hex_digit d) (λ z. code_point (4096 * w + 256 * x + 16 * y + z))))) q
    ∙ ap (λ o. and_then o (λ y. and_then (hex_digit d) (λ z. code_point (4096 * w + 256 * x + 16 * y + z)))) r
    ∙ ap (λ o. and_then o (λ z. code_point (4096 * w + 256 * x + 16 * y + z))) s

code_point_is : (n : ℕ) → scalar n ≡ true → code_point n ≡ Some n
unfolding code_point
code_point_is n h = ap (λ b. if b then Some n else None) h

code_is_known : (a b c d : ℕ) → IsCode (a ∷ b ∷ c ∷ d ∷ []) → code_character a b c d ≡ Some (meaning (code a b c d))
code_is_known a b c d (digits, single) =
    let ha = digits.0 in
    let hb = digits.1.0 in
    let hc = digits.1.1.0 in
    let hd = digits.1.1.1.0 in
    let la = hex_below a ha in
    let lb = hex_below b hb in
    let lc = hex_below c hc in
    let ld = hex_below d hd in
    four a b c d _ _ _ _ (hex_digit_is a ha) (hex_digit_is b hb) (hex_digit_is c hc) (hex_digit_is d hd)
    ∙ code_point_is (meaning (code a b c d)) (single_is_scalar (meaning (code a b c d)) (omega arith) single)

-- ---- whole texts

-- an escape that is read, and what is behind it
escape_then : (rest : List ℕ) (m n : ℕ) → escape rest ≡ Ok (m, n) → decoded_characters (92 ∷ rest) ≡ preceded_by m (decoded_behind n rest)
escape_then rest m n h = ap (λ (r : Result (ℕ × ℕ) ParseError). r >>= (λ (e : ℕ × ℕ). preceded_by e.0 (decoded_behind e.1 rest))) h

escape_of_one : (c : ℕ) (rest : List ℕ) → IsKnown c → escape (c ∷ rest) ≡ Ok (meaning (escaped c), 1)
unfolding escape
escape_of_one c rest k =
    ap (λ b. if b then escape_or_refusal (code_at rest) 5 (117 ∷ letters 4 rest) else escape_or_refusal (escaped_character c) 1 (c ∷ [])) k.no_code
    ∙ ap (λ o. escape_or_refusal o 1 (c ∷ [])) k.stands

escape_of_code : (a b c d m : ℕ) (rest : List ℕ) → code_character a b c d ≡ Some m → escape (117 ∷ a ∷ b ∷ c ∷ d ∷ rest) ≡ Ok (m, 5)
unfolding escape
escape_of_code a b c d m rest h = ap (λ o. escape_or_refusal o 5 (117 ∷ letters 4 (a ∷ b ∷ c ∷ d ∷ rest))) h

-- a piece of a string stands for a character
piece_has_meaning : (x : Piece) → IsPiece x → HasMeaning x
piece_has_meaning (character c) is = different c 92 (plain_is_no_backslash c is)
piece_has_meaning (escaped c) is = is
piece_has_meaning (code a b c d) is = is

pub decoded_piece : (x : Piece) (rest : List ℕ) → HasMeaning x → decoded_characters (spelling x ++ rest) ≡ preceded_by (meaning x) (decoded_characters rest)
decoded_piece (character c) rest is =
    ap (λ b. if b then escape rest >>= (λ (e : ℕ × ℕ). preceded_by e.0 (decoded_behind e.1 rest)) else preceded_by c (decoded_characters rest)) (unlike c 92 is)
decoded_piece (escaped c) rest is = escape_then (c ∷ rest) (meaning (escaped c)) 1 (escape_of_one c rest (escape_is_known c is))
decoded_piece (code a b c d) rest is =
    let m = meaning (code a b c d) in
    escape_then (117 ∷ a ∷ b ∷ c ∷ d ∷ rest) m 5 (escape_of_code a b c d m rest (code_is_known a b c d is))

decoded_pieces : (xs : List Piece) → ArePieces xs → decoded_characters (spellings xs) ≡ Ok (map meaning xs)
decoded_pieces [] are = refl
decoded_pieces (x ∷ xs) are = decoded_piece x (spellings xs) (piece_has_meaning x are.0) ∙ ap (preceded_by (meaning x)) (decoded_pieces xs are.1)

pub strings_mean_their_pieces : StringsMeanTheirPieces
unfolding string_value
strings_mean_their_pieces text pieces are spelled =
    ap (λ r. scalar_of_text scalar_value.String (r >>= (λ cs. Ok (encode_utf8_all cs)))) (ap decoded_characters spelled ∙ decoded_pieces pieces are)
