-- A string that is read is one of the grammar, and a fault in one is the grammar's.
use Rattle.std.proofs.Common.{◌≡◌, ◌⊎◌, inl, inr, ℕ, ◌≤◌, ◌<◌, ◌+◌, ◌-◌, ◌*◌, Bool, true, false, cond, not, nat_le, nat_lt, ◌&&◌, ◌||◌, ◌==◌, List, [], ◌∷◌, ◌++◌, length, sym, subst, ap, ◌∙◌, refl, Result, Ok, Err, Option, Some, None, append_assoc, encode_utf8_all, arith, length-append}
use Rattle.std.proofs.lemmas.List.{append-nil}
use Rattle.std.proofs.lemmas.Bool.{leb-true, le-leb, lt-leb, cases_order, eq-eqb, or_left, or_right, and_from, cond-true, cond-false, eqb-true, eqb-false, ltb-true, ltb-false, or_cases, or_parts, and_parts, and_cases, not-true, not-false}
use Rattle.std.specs.Int.{is_in_range}
use Rattle.std.specs.Char.{is_ascii_hexdigit, is_ascii_alphanumeric}
use Rattle.graphql_text.specs.declared.position.SourcePosition.{SourcePosition}
use Rattle.graphql_text.specs.declared.token.LexerError.{LexerError}
use Rattle.graphql_text.specs.declared.token.Token.{Token}
use Rattle.graphql_text.specs.declared.class.Class.TheVariants as class
use Rattle.graphql_text.specs.Position.{step}
use Rattle.graphql_text.specs.Reading.{Place, Refusal, begins, between}
use Rattle.graphql_text.specs.Strings.{is_escape, is_code, Mode, plain, escape, code, turn_plain, turn_escape, turn_code, turn, turned, string_from, string}
use Rattle.graphql_text.specs.Grammar.{Each, NextIs, NextIsNot, Piece, character, escaped, spelling, spellings, is_string_character, hex_value, IsCode, IsPiece, ArePieces, IsStringText, IsQuoted, Spells, Ends, IsFault, IsOpenString, IsOpenEscape, IsOpenCode, IsBadEscape}
use Rattle.graphql_text.specs.Grammar as grammar
use Rattle.graphql_lexer.proofs.Leading.{same}
use Rattle.graphql_lexer.proofs.TextLemmas.{between_front}
use Rattle.graphql_lexer.proofs.Readings.{Goes, stays, goes_one, goes_then, Fails, DoneOrFails, reads_then, past_one_true}

-- ---- pieces

spellings-append : (xs ys : List Piece) → spellings (xs ++ ys) ≡ spellings xs ++ spellings ys
spellings-append [] ys = refl
spellings-append (x ∷ xs) ys = ap (λ z. spelling x ++ z) (spellings-append xs ys) ∙ sym (append_assoc (spelling x) (spellings xs) (spellings ys))

pieces-append : (xs ys : List Piece) → ArePieces xs → ArePieces ys → ArePieces (xs ++ ys)
pieces-append [] ys a b = b
pieces-append (x ∷ xs) ys a b = (a.0, pieces-append xs ys a.1 b)

-- one piece more
pub text_more : (cs ds : List ℕ) (x : Piece) → IsStringText cs → IsPiece x → ds ≡ cs ++ spelling x → IsStringText ds
text_more cs ds x t x_is e = record {
  pieces = t.pieces ++ x ∷ [];
  are = pieces-append t.pieces (x ∷ []) t.are (x_is, tt);
  is = e ∙ ap (λ z. z ++ spelling x) t.is ∙ ap (λ z. spellings t.pieces ++ z) (sym (append-nil (spelling x))) ∙ sym (spellings-append t.pieces (x ∷ []));
}

-- ---- codes

pub range_of : (low high c : ℕ) → is_in_range low high c ≡ true → (low ≤ c) × (c ≤ high)
range_of low high c h = let p = and_parts (nat_le low c) (nat_le c high) h in (leb-true low c p.0, leb-true c high p.1)

-- a hexadecimal digit and its number
abbrev HexRange : ℕ → ℕ → Type 0
HexRange c v = (48 ≤ c × c ≤ 57 × (v ≡ c - 48)) ⊎ ((65 ≤ c × c ≤ 70 × (v ≡ c - 55)) ⊎ (97 ≤ c × c ≤ 102 × (v ≡ c - 87)))

hex_range : (c : ℕ) → is_ascii_hexdigit c ≡ true → HexRange c (hex_value c)
hex_range c h = elim (or_cases (is_in_range 48 57 c || is_in_range 65 70 c) (is_in_range 97 102 c) h) [
  | inl x ↦ elim (or_cases (is_in_range 48 57 c) (is_in_range 65 70 c) x) [
    | inl y ↦ let r = range_of 48 57 c y in inl (r.0, r.1, cond-true (nat_le c 57) _ _ (le-leb c 57 r.1))
    | inr y ↦ let r = range_of 65 70 c y in inr (inl (r.0, r.1, cond-false (nat_le c 57) _ _ (lt-leb c 57 (omega arith)) ∙ cond-true (nat_le c 70) _ _ (le-leb c 70 r.1)))
  ]
  | inr x ↦ let r = range_of 97 102 c x in inr (inr (r.0, r.1, cond-false (nat_le c 57) _ _ (lt-leb c 57 (omega arith)) ∙ cond-false (nat_le c 70) _ _ (lt-leb c 70 (omega arith))))
]

hex_below : (c v : ℕ) → HexRange c v → v ≤ 15
hex_below c v (inl h) = omega arith
hex_below c v (inr (inl h)) = omega arith
hex_below c v (inr (inr h)) = omega arith

high_from : (a v : ℕ) → HexRange a v → v ≡ 13 → (a ≡ 68) ⊎ (a ≡ 100)
high_from a v (inl h) e = absurd (omega arith)
high_from a v (inr (inl h)) e = inl (omega arith)
high_from a v (inr (inr h)) e = inr (omega arith)

high_to : (a v : ℕ) → HexRange a v → (a ≡ 68) ⊎ (a ≡ 100) → v ≡ 13
high_to a v (inl h) (inl e) = absurd (omega arith)
high_to a v (inl h) (inr e) = absurd (omega arith)
high_to a v (inr (inl h)) (inl e) = omega arith
high_to a v (inr (inl h)) (inr e) = absurd (omega arith)
high_to a v (inr (inr h)) (inl e) = absurd (omega arith)
high_to a v (inr (inr h)) (inr e) = omega arith

low_from : (b v : ℕ) → HexRange b v → b ≤ 55 → v ≤ 7
low_from b v (inl h) l = omega arith
low_from b v (inr (inl h)) l = absurd (omega arith)
low_from b v (inr (inr h)) l = absurd (omega arith)

low_to : (b v : ℕ) → HexRange b v → 55 < b → 8 ≤ v
low_to b v (inl h) l = omega arith
low_to b v (inr (inl h)) l = omega arith
low_to b v (inr (inr h)) l = omega arith

-- the number of four digits is no half of a pair
abbrev Single : ℕ → ℕ → ℕ → ℕ → Type 0
Single va vb vc vd = (4096 * va + 256 * vb + 16 * vc + vd < 0xD800) ⊎ (0xDFFF < 4096 * va + 256 * vb + 16 * vc + vd)

single_true : (a b va vb vc vd : ℕ) → HexRange a va → HexRange b vb → vc ≤ 15 → vd ≤ 15 → (((a ≡ 68) ⊎ (a ≡ 100)) → b ≤ 55) → Single va vb vc vd
single_true a b va vb vc vd ha hb hc hd fits = elim (cases_order va 13) [
  | inl e ↦ let l = low_from b vb hb (fits (high_from a va ha e)) in inl (omega arith)
  | inr o ↦ let l = hex_below b vb hb in elim o [ inl m ↦ inl (omega arith) | inr m ↦ inr (omega arith) ]
]

single_false : (a b va vb vc vd : ℕ) → HexRange a va → HexRange b vb → vc ≤ 15 → vd ≤ 15 → (a ≡ 68) ⊎ (a ≡ 100) → 55 < b → Single va vb vc vd → ⊥
single_false a b va vb vc vd ha hb hc hd high low (inl s) = let e = high_to a va ha high in let l = low_to b vb hb low in omega arith
single_false a b va vb vc vd ha hb hc hd high low (inr s) = let e = high_to a va ha high in let l = low_to b vb hb low in let m = hex_below b vb hb in omega arith

pub is_code_true : (a b c d : ℕ) (cs : List ℕ) → is_code (117 ∷ a ∷ b ∷ c ∷ d ∷ cs) ≡ true → IsCode (a ∷ b ∷ c ∷ d ∷ [])
unfolding is_code
is_code_true a b c d cs h =
    let p1 = and_parts (is_ascii_hexdigit a && is_ascii_hexdigit b && is_ascii_hexdigit c && is_ascii_hexdigit d) (not ((a == 68 || a == 100) && nat_lt 55 b)) h in
    let p2 = and_parts (is_ascii_hexdigit a && is_ascii_hexdigit b && is_ascii_hexdigit c) (is_ascii_hexdigit d) p1.0 in
    let p3 = and_parts (is_ascii_hexdigit a && is_ascii_hexdigit b) (is_ascii_hexdigit c) p2.0 in
    let p4 = and_parts (is_ascii_hexdigit a) (is_ascii_hexdigit b) p3.0 in
    let fits : ((a ≡ 68) ⊎ (a ≡ 100)) → b ≤ 55 = λ e. low (or_of e) (not-true ((a == 68 || a == 100) && nat_lt 55 b) p1.1) in
    ((p4.0, (p4.1, (p3.1, (p2.1, tt)))), single_true a b (hex_value a) (hex_value b) (hex_value c) (hex_value d) (hex_range a p4.0) (hex_range b p4.1) (hex_below c (hex_value c) (hex_range c p3.1)) (hex_below d (hex_value d) (hex_range d p2.1)) fits)
  where
    or_of : ((a ≡ 68) ⊎ (a ≡ 100)) → (a == 68 || a == 100) ≡ true
    or_of (inl e) = or_left (a == 68) (a == 100) (eq-eqb a 68 e)
    or_of (inr e) = or_right (a == 68) (a == 100) (eq-eqb a 100 e)

    low : (a == 68 || a == 100) ≡ true → ((a == 68 || a == 100) && nat_lt 55 b) ≡ false → b ≤ 55
    low h e = ltb-false 55 b (sym (ap (λ z. z && nat_lt 55 b) h) ∙ e)

pub is_code_false : (a b c d : ℕ) (cs : List ℕ) → is_code (117 ∷ a ∷ b ∷ c ∷ d ∷ cs) ≡ false → IsCode (a ∷ b ∷ c ∷ d ∷ []) → ⊥
unfolding is_code
is_code_false a b c d cs h ((ha, (hb, (hc, (hd, u)))), single) =
    let hex : (is_ascii_hexdigit a && is_ascii_hexdigit b && is_ascii_hexdigit c && is_ascii_hexdigit d) ≡ true = and_from _ _ (and_from _ _ (and_from _ _ ha hb) hc) hd in
    let e : not ((a == 68 || a == 100) && nat_lt 55 b) ≡ false = sym (ap (λ z. z && not ((a == 68 || a == 100) && nat_lt 55 b)) hex) ∙ h in
    let p = and_parts (a == 68 || a == 100) (nat_lt 55 b) (not-false ((a == 68 || a == 100) && nat_lt 55 b) e) in
    single_false a b (hex_value a) (hex_value b) (hex_value c) (hex_value d) (hex_range a ha) (hex_range b hb) (hex_below c (hex_value c) (hex_range c hc)) (hex_below d (hex_value d) (hex_range d hd)) (high (or_cases (a == 68) (a == 100) p.0)) (ltb-true 55 b p.1) single
  where
    high : ((a == 68) ≡ true) ⊎ ((a == 100) ≡ true) → (a ≡ 68) ⊎ (a ≡ 100)
    high (inl e) = inl (eqb-true a 68 e)
    high (inr e) = inr (eqb-true a 100 e)

-- ---- turns

-- an escape of a code is read from p on: its backslash is passed, and these letters behind its `u`
pub record OpenCode (p from : Place) (n : ℕ) (passed rest : List ℕ) : Type 0 where
  pub text : List ℕ
  pub letters : List ℕ
  pub text_is : IsStringText text
  pub each : Each is_ascii_alphanumeric letters
  pub count : length letters ≡ n
  pub few : n ≤ 3
  pub is : passed ≡ text ++ 92 ∷ 117 ∷ letters
  pub goes : Goes p (text ++ 92 ∷ []) from
  pub from_is : from.rest ≡ 117 ∷ (letters ++ rest)

-- these characters of a string were passed from p on, in this mode
abbrev pub IsOpen : Place → Mode → List ℕ → List ℕ → Type 0
IsOpen p plain passed rest = IsStringText passed
IsOpen p escape passed rest = (text : List ℕ) × IsStringText text × (passed ≡ text ++ 92 ∷ [])
IsOpen p (code from n) passed rest = OpenCode p from n passed rest

abbrev pub StringRead : List ℕ → Place → Type 0
StringRead cs q = IsStringText cs × NextIs 34 q.rest

abbrev pub StringFails : LexerError → List ℕ → List ℕ → Type 0
StringFails e cs rest = IsFault e (34 ∷ cs) rest

-- what a turn does, behind these characters
abbrev pub Turned : Place → List ℕ → ℕ → List ℕ → Result (Option Mode) Refusal → Type 0
Turned p passed c cs (Ok None) = IsStringText passed × (34 ≡ c)
Turned p passed c cs (Ok (Some k)) = IsOpen p k (passed ++ c ∷ []) cs
Turned p passed c cs (Err e) = Fails p StringFails e

turned_if : (p : Place) (passed : List ℕ) (c : ℕ) (cs : List ℕ) (b : Bool) (r s : Result (Option Mode) Refusal) → (b ≡ true → Turned p passed c cs r) → (b ≡ false → Turned p passed c cs s) → Turned p passed c cs (cond b r s)
turned_if p passed c cs true r s x y = x refl
turned_if p passed c cs false r s x y = y refl

string_character : (c : ℕ) → (c == 34) ≡ false → (c == 92) ≡ false → (nat_lt c 32 && not (c == 9)) ≡ false → is_string_character c ≡ true
string_character c q s h = and_from (not (c == 34) && not (c == 92)) (nat_le 32 c || c == 9) (and_from (not (c == 34)) (not (c == 92)) (ap not q) (ap not s)) (elim (and_cases (nat_lt c 32) (not (c == 9)) h) [
  | inl x ↦ or_left (nat_le 32 c) (c == 9) (le-leb 32 c (ltb-false c 32 x))
  | inr x ↦ or_right (nat_le 32 c) (c == 9) (not-false (c == 9) x)
])

plain_turned : (p : Place) (at : SourcePosition) (passed : List ℕ) (c : ℕ) (cs : List ℕ) → Goes p passed (record { at = at; rest = c ∷ cs }) → IsStringText passed → Turned p passed c cs (turn_plain at c)
unfolding turn_plain
plain_turned p at passed c cs g t =
    let here : Place = record { at = at; rest = c ∷ cs } in
    turned_if p passed c cs (c == 34) _ _ (λ e. (t, sym (eqb-true c 34 e)))
    (λ quote. turned_if p passed c cs (c == 92) _ _ (λ e. (passed, t, ap (λ z. passed ++ z ∷ []) (eqb-true c 92 e)))
    (λ slash. turned_if p passed c cs (c == 10 || c == 13) _ _
    (λ e. record { front = passed; stop = here; goes = g; start = refl; end = refl; fault = inl ((passed, t, refl), line_end (or_cases (c == 10) (c == 13) e)) })
    (λ line. turned_if p passed c cs (nat_lt c 32 && not (c == 9)) _ _
    (λ e.
    let control = and_parts (nat_lt c 32) (not (c == 9)) e in
    let lines = or_parts (c == 10) (c == 13) line in
    record { front = passed; stop = here; goes = g; start = refl; end = refl; fault = ((passed, t, refl), refl, ltb-true c 32 control.0, eqb-false c 9 (not-true (c == 9) control.1), eqb-false c 10 lines.0, eqb-false c 13 lines.1) })
    (λ e. text_more passed (passed ++ c ∷ []) (character c) t (string_character c quote slash e) refl))))
  where
    line_end : ((c == 10) ≡ true) ⊎ ((c == 13) ≡ true) → (10 ≡ c) ⊎ (13 ≡ c)
    line_end (inl e) = inl (sym (eqb-true c 10 e))
    line_end (inr e) = inr (sym (eqb-true c 13 e))

escape_turned : (p : Place) (at : SourcePosition) (passed : List ℕ) (c : ℕ) (cs : List ℕ) → Goes p passed (record { at = at; rest = c ∷ cs }) → (text : List ℕ) → IsStringText text → passed ≡ text ++ 92 ∷ [] → Turned p passed c cs (turn_escape at c cs)
unfolding turn_escape
escape_turned p at passed c cs g text t is =
    let here : Place = record { at = at; rest = c ∷ cs } in
    let more : passed ++ c ∷ [] ≡ text ++ 92 ∷ c ∷ [] = ap (λ z. z ++ c ∷ []) is ∙ append_assoc text (92 ∷ []) (c ∷ []) in
    let P : List ℕ → Type 0 = λ z. Goes p z here in
    turned_if p passed c cs (is_escape c) _ _ (λ e. text_more text (passed ++ c ∷ []) (escaped c) t e more)
    (λ none. turned_if p passed c cs (c == 117) _ _
    (λ e. record { text = text; letters = []; text_is = t; each = tt; count = refl; few = omega arith; is = more ∙ ap (λ z. text ++ 92 ∷ z ∷ []) (eqb-true c 117 e); goes = subst P is g; from_is = ap (λ z. z ∷ cs) (eqb-true c 117 e) })
    (λ e. record { front = passed; stop = here; goes = g; start = refl; end = refl; fault = ((text, t, ap (λ z. 34 ∷ z) is), (c ∷ [], cs, refl, inl (refl, none, eqb-false c 117 e), ap (λ z. 92 ∷ encode_utf8_all z) (between_front (c ∷ cs) (c ∷ []) cs refl))) }))

each-append : (p : ℕ → Bool) (xs ys : List ℕ) → Each p xs → Each p ys → Each p (xs ++ ys)
each-append p [] ys a b = b
each-append p (x ∷ xs) ys a b = (a.0, each-append p xs ys a.1 b)

code_turned : (p from : Place) (n : ℕ) (at : SourcePosition) (passed : List ℕ) (c : ℕ) (cs : List ℕ) → OpenCode p from n passed (c ∷ cs) → Turned p passed c cs (turn_code from n c cs)
unfolding turn_code
code_turned p from n at passed c cs o =
    let letters = o.letters in
    let more : passed ++ c ∷ [] ≡ o.text ++ 92 ∷ 117 ∷ (letters ++ c ∷ []) = ap (λ z. z ++ c ∷ []) o.is ∙ append_assoc o.text (92 ∷ 117 ∷ letters) (c ∷ []) in
    let from_more : from.rest ≡ 117 ∷ ((letters ++ c ∷ []) ++ cs) = o.from_is ∙ ap (λ z. 117 ∷ z) (sym (append_assoc letters (c ∷ []) cs)) in
    let count : length (letters ++ c ∷ []) ≡ n + 1 = omega (arith, length-append letters (c ∷ []), o.count) in
    let opens : IsOpenEscape (34 ∷ (o.text ++ 92 ∷ [])) = (o.text, o.text_is, refl) in
    turned_if p passed c cs (is_ascii_alphanumeric c) _ _
    (λ letter.
    let each : Each is_ascii_alphanumeric (letters ++ c ∷ []) = each-append is_ascii_alphanumeric letters (c ∷ []) o.each (letter, tt) in
    turned_if p passed c cs (nat_lt n 3) _ _
    (λ e. let l = ltb-true n 3 e in
    record { text = o.text; letters = letters ++ c ∷ []; text_is = o.text_is; each = each; count = count; few = omega arith; is = more; goes = o.goes; from_is = from_more })
    (λ e. let l = ltb-false n 3 e in let few = o.few in let four : length (letters ++ c ∷ []) ≡ 4 = omega arith in
    turned_if p passed c cs (is_code from.rest) _ _
    (λ is. four_true (letters ++ c ∷ []) four (sym (ap is_code from_more) ∙ is) more)
    (λ is. record { front = o.text ++ 92 ∷ []; stop = from; goes = o.goes; start = refl; end = refl; fault = (opens, (117 ∷ (letters ++ c ∷ []), cs, from_more, inr (refl, each, inl (four, four_false (letters ++ c ∷ []) four (sym (ap is_code from_more) ∙ is))), ap (λ z. 92 ∷ encode_utf8_all z) (between_front from.rest (117 ∷ (letters ++ c ∷ [])) cs from_more))) })))
    (λ e. record { front = o.text ++ 92 ∷ []; stop = from; goes = o.goes; start = refl; end = refl; fault = (opens, (117 ∷ letters, c ∷ cs, o.from_is, inr (refl, o.each, inr (few_of o.count o.few, e, λ z. cc)), ap (λ z. 92 ∷ encode_utf8_all z) (between_front from.rest (117 ∷ letters) (c ∷ cs) o.from_is))) })
  where
    few_of : length o.letters ≡ n → n ≤ 3 → length o.letters ≤ 3
    few_of a b = omega arith

    four_true : (xs : List ℕ) → length xs ≡ 4 → is_code (117 ∷ (xs ++ cs)) ≡ true → passed ++ c ∷ [] ≡ o.text ++ 92 ∷ 117 ∷ xs → IsStringText (passed ++ c ∷ [])
    four_true [] l h m = absurd (omega arith)
    four_true (w ∷ []) l h m = absurd (omega arith)
    four_true (w ∷ x ∷ []) l h m = absurd (omega arith)
    four_true (w ∷ x ∷ y ∷ []) l h m = absurd (omega arith)
    four_true (w ∷ x ∷ y ∷ z ∷ []) l h m = text_more o.text (passed ++ c ∷ []) (grammar.code w x y z) o.text_is (is_code_true w x y z cs h) m
    four_true (w ∷ x ∷ y ∷ z ∷ v ∷ vs) l h m = absurd (omega arith)

    four_false : (xs : List ℕ) → length xs ≡ 4 → is_code (117 ∷ (xs ++ cs)) ≡ false → IsCode xs → ⊥
    four_false [] l h m = m
    four_false (w ∷ []) l h m = m
    four_false (w ∷ x ∷ []) l h m = m
    four_false (w ∷ x ∷ y ∷ []) l h m = m
    four_false (w ∷ x ∷ y ∷ z ∷ []) l h m = is_code_false w x y z cs h m
    four_false (w ∷ x ∷ y ∷ z ∷ v ∷ vs) l h m = m

turn_turned : (p : Place) (m : Mode) (at : SourcePosition) (passed : List ℕ) (c : ℕ) (cs : List ℕ) → Goes p passed (record { at = at; rest = c ∷ cs }) → IsOpen p m passed (c ∷ cs) → Turned p passed c cs (turn m at c cs)
unfolding turn
turn_turned p plain at passed c cs g o = plain_turned p at passed c cs g o
turn_turned p escape at passed c cs g o = escape_turned p at passed c cs g o.0 o.1 o.2
turn_turned p (code from n) at passed c cs g o = code_turned p from n at passed c cs o

-- ---- strings

open_end : (p : Place) (m : Mode) (passed : List ℕ) → IsOpen p m passed [] → IsOpenString (34 ∷ passed) ⊎ (IsOpenEscape (34 ∷ passed) ⊎ IsOpenCode (34 ∷ passed))
open_end p plain passed o = inl (passed, o, refl)
open_end p escape passed o = inr (inl (o.0, o.1, ap (λ z. 34 ∷ z) o.2))
open_end p (code from n) passed o = let c = o.count in let f = o.few in inr (inr (o.text, o.letters, o.text_is, o.each, omega arith, ap (λ z. 34 ∷ z) o.is))

pub closing_reads : (p : Place) (m : Mode) (at : SourcePosition) (cs passed : List ℕ) → Goes p passed (record { at = at; rest = cs }) → IsOpen p m passed cs → DoneOrFails p same StringRead StringFails (string_from m at cs)
closing_reads p m at [] passed g o = record { front = passed; stop = record { at = at; rest = [] }; goes = g; start = refl; end = refl; fault = inr (refl, open_end p m passed o) }
closing_reads p m at (c ∷ cs) passed g o =
    on (turn m at c cs) (turn_turned p m at passed c cs g o)
    (λ k n. closing_reads p k (step at c) cs (passed ++ c ∷ []) (goes_then p (record { at = at; rest = c ∷ cs }) (record { at = step at c; rest = cs }) passed (c ∷ []) g (goes_one at c cs)) n)
  where
    on : (r : Result (Option Mode) Refusal) → Turned p passed c cs r → ((k : Mode) → IsOpen p k (passed ++ c ∷ []) cs → DoneOrFails p same StringRead StringFails (string_from k (step at c) cs)) → DoneOrFails p same StringRead StringFails (turned r (record { at = at; rest = c ∷ cs }) (λ k. string_from k (step at c) cs))
    on (Ok None) t go = record { front = passed; goes = g; good = t }
    on (Ok (Some k)) t go = go k t
    on (Err e) t go = t

abbrev pub QuotedRead : List ℕ → Token × Place → Type 0
QuotedRead cs r = Spells r.0 (34 ∷ cs) × Ends r.0 (34 ∷ cs) r.1.rest

begins_quote : (q : Place) → NextIs 34 q.rest → begins class.Quote q ≡ true
unfolding begins
begins_quote q = on q.at q.rest
  where
    on : (at : SourcePosition) (cs : List ℕ) → NextIs 34 cs → begins class.Quote (record { at = at; rest = cs }) ≡ true
    on at [] h = absurd h
    on at (c ∷ cs) h = eq-eqb c 34 (sym h)

pub string_reads : (p : Place) → DoneOrFails p (λ r. r.1) QuotedRead StringFails (string p)
unfolding string
string_reads p =
    reads_then p same (λ r. r.1) StringRead QuotedRead StringFails (string_from plain p.at p.rest) _
    (closing_reads p plain p.at p.rest [] (stays p) (record { pieces = []; are = tt; is = refl }))
    (λ a q g s.
    let o = past_one_true class.Quote q (begins_quote q s.1) in
    let quote : o.head ≡ 34 = eqb-true o.head 34 o.is_of in
    let text : between p.rest q.rest ≡ a = between_front p.rest a q.rest g.is in
    record { front = o.head ∷ []; goes = o.goes; good = ((a, record { is = ap (λ z. 34 ∷ (a ++ z ∷ [])) quote; text_is = s.0 }, ap encode_utf8_all text), tt) })
