-- Steps of reading a string.
use Rattle.std.proofs.Common.{◌≡◌, ℕ, zero, suc, ◌+◌, ◌-◌, ◌<◌, true, false, Result, Ok, Err, List, [], ◌∷◌, ◌++◌, drop, refl, sym, ap, ◌∙◌, arith, append_assoc, append-nil}
use Rattle.std.specs.Prelude.{encode_utf8_all}
use Rattle.std.specs.Char.{is_ascii_alphanumeric, encode_utf8}
use Rattle.graphql_text.specs.Memory.{◌>>=◌}
use Rattle.graphql_text.specs.declared.parse_error.ParseError.{ParseError}
use Rattle.graphql_scalars.specs.StringValue.{letters, escape, escape_and_rest, preceded_by, decoded_behind, decoded_characters}

-- ---- letters

pub letters_end : (n : ℕ) → letters n [] ≡ []
letters_end zero = refl
letters_end (suc n) = refl

pub letters_stop : (n c : ℕ) (cs : List ℕ) → is_ascii_alphanumeric c ≡ false → letters n (c ∷ cs) ≡ []
letters_stop zero c cs h = refl
letters_stop (suc n) c cs h = rw h refl

pub letters_more : (n c : ℕ) (cs : List ℕ) → is_ascii_alphanumeric c ≡ true → letters (suc n) (c ∷ cs) ≡ c ∷ letters n cs
letters_more n c cs h = rw h refl

-- ---- decoding

pub behind_is_drop : (n : ℕ) (cs : List ℕ) → decoded_behind n cs ≡ decoded_characters (drop n cs)
behind_is_drop zero cs = refl
behind_is_drop (suc n) [] = refl
behind_is_drop (suc n) (c ∷ cs) = behind_is_drop n cs

-- what is decoded, behind the text that was decoded before it
abbrev pub continued : List ℕ → Result (List ℕ) ParseError → Result (List ℕ) ParseError
continued front rest = rest >>= (λ cs. Ok (front ++ encode_utf8_all cs))

continued_more : (front : List ℕ) (c : ℕ) (rest : Result (List ℕ) ParseError) → continued front (preceded_by c rest) ≡ continued (front ++ encode_utf8 c) rest
continued_more front c (Ok cs) = ap Ok (sym (append_assoc front (encode_utf8 c) (encode_utf8_all cs)))
continued_more front c (Err e) = refl

-- a character and what stands behind it
abbrev ok_pair : ℕ × List ℕ → Result (ℕ × List ℕ) ParseError
ok_pair p = Ok p

decoded_escape : (xs : List ℕ) → decoded_characters (92 ∷ xs) ≡ (escape_and_rest xs >>= (λ (p : ℕ × List ℕ). preceded_by p.0 (decoded_characters p.1)))
unfolding escape_and_rest
decoded_escape xs = by (escape xs)
  where
    by : (r : Result (ℕ × ℕ) ParseError)
        → (r >>= (λ (e : ℕ × ℕ). preceded_by e.0 (decoded_behind e.1 xs))) ≡ ((r >>= (λ (e : ℕ × ℕ). ok_pair (e.0, drop e.1 xs))) >>= (λ (p : ℕ × List ℕ). preceded_by p.0 (decoded_characters p.1)))
    by (Ok e) = ap (preceded_by e.0) (behind_is_drop e.1 xs)
    by (Err e) = refl

-- an escape is read
pub escape_read : (front rest xs : List ℕ) (c : ℕ) (behind : List ℕ) → rest ≡ 92 ∷ xs → escape_and_rest xs ≡ Ok (c, behind)
    → continued (front ++ encode_utf8 c) (decoded_characters behind) ≡ continued front (decoded_characters rest)
escape_read front rest xs c behind is read =
    sym (continued_more front c (decoded_characters behind))
    ∙ ap (continued front) (sym (ap decoded_characters is ∙ decoded_escape xs ∙ ap (λ (r : Result (ℕ × List ℕ) ParseError). r >>= (λ (p : ℕ × List ℕ). preceded_by p.0 (decoded_characters p.1))) read))

-- an escape is refused
pub escape_refused : (front rest xs : List ℕ) (e : ParseError) → rest ≡ 92 ∷ xs → escape_and_rest xs ≡ Err e → continued front (decoded_characters rest) ≡ Err e
escape_refused front rest xs e is refused =
    ap (continued front) (ap decoded_characters is ∙ decoded_escape xs ∙ ap (λ (r : Result (ℕ × List ℕ) ParseError). r >>= (λ (p : ℕ × List ℕ). preceded_by p.0 (decoded_characters p.1))) refused)

-- a letter of a code is read
pub letter_read : (front rest cs : List ℕ) (c i : ℕ) → rest ≡ c ∷ cs → is_ascii_alphanumeric c ≡ true → i < 4
    → (front ++ encode_utf8 c) ++ encode_utf8_all (letters (4 - (i + 1)) cs) ≡ front ++ encode_utf8_all (letters (4 - i) rest)
letter_read front rest cs c i is letter within =
    let n : 4 - i ≡ suc (4 - (i + 1)) = omega arith in
    append_assoc front (encode_utf8 c) _
    ∙ ap (λ l. front ++ encode_utf8_all l) (sym (ap (letters (4 - i)) is ∙ ap (λ k. letters k (c ∷ cs)) n ∙ letters_more (4 - (i + 1)) c cs letter))

-- no letter of a code comes next
pub letters_stopped : (front rest cs : List ℕ) (c n : ℕ) → rest ≡ c ∷ cs → is_ascii_alphanumeric c ≡ false → front ++ encode_utf8_all (letters n rest) ≡ front
letters_stopped front rest cs c n is other = ap (λ l. front ++ encode_utf8_all l) (ap (letters n) is ∙ letters_stop n c cs other) ∙ append-nil front
