-- What is written of a value is the print of an outline, which reads as the value's data.
use Rattle.std.proofs.Common.{◌≡◌, ℕ, ◌+◌, ◌-◌, ◌/◌, ◌%◌, Bool, true, false, cond, List, [], ◌∷◌, ◌++◌, ltb, eqb, refl, ap, ap₂, arith}
use Rattle.std.specs.Char.{digit_char}
use Rattle.std.specs.List.{flat_map}
use Rattle.std.proofs.lemmas.Bool.{eqb-true, ltb-false}
use Rattle.json.specs.Print.{escape_byte, escape, quoted}
use Rattle.graphql_json.specs.Json.{hex_digit, escaped, json_text}

digit_is : (n : ℕ) (b : Bool) → ltb n 10 ≡ b → cond b (48 + n) (97 + (n - 10)) ≡ cond b (48 + n) (87 + n)
digit_is n true e = refl
digit_is n false e = let past = ltb-false n 10 e in omega arith

hex_digit_is : (n : ℕ) → hex_digit n ≡ digit_char n
hex_digit_is n = digit_is n (ltb n 10) refl

-- a byte, by the tests that both make
byte_by : (x : ℕ) (q w b f n r t : Bool) → eqb x 34 ≡ q → eqb x 92 ≡ w → eqb x 8 ≡ b → eqb x 12 ≡ f → eqb x 10 ≡ n → eqb x 13 ≡ r → eqb x 9 ≡ t → escaped x ≡ escape_byte x
unfolding escape_byte
byte_by x true w b f n r t is-q is-w is-b is-f is-n is-r is-t = rw (eqb-true x 34 is-q) refl
byte_by x false true b f n r t is-q is-w is-b is-f is-n is-r is-t = rw (eqb-true x 92 is-w) refl
byte_by x false false true f n r t is-q is-w is-b is-f is-n is-r is-t = rw (eqb-true x 8 is-b) refl
byte_by x false false false true n r t is-q is-w is-b is-f is-n is-r is-t = rw (eqb-true x 12 is-f) refl
byte_by x false false false false true r t is-q is-w is-b is-f is-n is-r is-t = rw (eqb-true x 10 is-n) refl
byte_by x false false false false false true t is-q is-w is-b is-f is-n is-r is-t = rw (eqb-true x 13 is-r) refl
byte_by x false false false false false false true is-q is-w is-b is-f is-n is-r is-t = rw (eqb-true x 9 is-t) refl
byte_by x false false false false false false false is-q is-w is-b is-f is-n is-r is-t =
    rw (is-q, is-w, is-b, is-f, is-n, is-r, is-t) (rw (hex_digit_is (x / 16), hex_digit_is (x % 16)) refl)

same_byte : (x : ℕ) → escaped x ≡ escape_byte x
same_byte x = byte_by x _ _ _ _ _ _ _ refl refl refl refl refl refl refl

same_bytes : (text : List ℕ) → flat_map escaped text ≡ escape text
same_bytes [] = refl
same_bytes (x ∷ text) = ap₂ (λ xs ys. xs ++ ys) (same_byte x) (same_bytes text)

pub same_text : (text : List ℕ) → json_text text ≡ quoted text
same_text text = ap (λ s. 34 ∷ s ++ 34 ∷ []) (same_bytes text)
