-- A cut leads on, and leaves fewer characters unless it is the end.
use Rattle.std.proofs.Common.{◌≡◌, ◌≤◌, ◌<◌, ◌+◌, ℕ, Bool, true, false, cond, ◌==◌, ◌||◌, ◌&&◌, List, [], ◌∷◌, ◌++◌, length, subst, ap, ◌∙◌, refl, Result, Ok, Err, Option, Some, None, arith}
use Rattle.std.specs.Char.{is_ascii_digit}
use Rattle.graphql_text.specs.declared.position.SourcePosition.{SourcePosition}
use Rattle.graphql_text.specs.declared.token.Token.{Token}
use Rattle.graphql_text.specs.declared.class.Class.TheVariants as class
use Rattle.graphql_text.specs.Position.{step}
use Rattle.graphql_text.specs.Reading.{Place, Refusal, ◌>>=◌, is_in, past, past_one}
use Rattle.graphql_text.specs.Numbers.{digits, no_digit, whole, fraction, exponent, number}
use Rattle.graphql_text.specs.Strings.{string_from, plain, string}
use Rattle.graphql_text.specs.Tokens.{Located, ellipsis, point, name_from, punctuated, punctuator_of, token, ahead_from, ahead, cut, is_end, Runs}
use Rattle.graphql_lexer.specs.OneByOne.{Remains, items_left}
use Rattle.graphql_lexer.proofs.StringTurns.{closing_leads}
use Rattle.graphql_lexer.proofs.Leading.{leads_length, past_leads, past_one_leads, no_digit_leads, fraction_leads, exponent_leads, Leads, same}

-- what was cut leaves fewer than n characters
abbrev pub Falls : {A : Type 0} → ℕ → (A → Place) → Result A Refusal → Type 0
Falls n f (Ok q) = length (f q).rest < n
Falls n f (Err e) = Unit {0}

falls_if : {A : Type 0} (n : ℕ) (f : A → Place) (b : Bool) (r s : Result A Refusal) → Falls n f r → Falls n f s → Falls n f (cond b r s)
falls_if n f true r s x y = x
falls_if n f false r s x y = y

falls_less : {A : Type 0} (m n : ℕ) (f : A → Place) (r : Result A Refusal) → m ≤ n → Falls m f r → Falls n f r
falls_less m n f (Ok q) l x = omega arith
falls_less m n f (Err e) l x = tt

falls_then : {A B : Type 0} (n : ℕ) (f : A → Place) (g : B → Place) (r : Result A Refusal) (k : A → Result B Refusal) → Falls n f r → ((x : A) → length (f x).rest < n → Falls n g (k x)) → Falls n g (r >>= k)
falls_then n f g (Ok x) k l m = m x l
falls_then n f g (Err e) k l m = tt

falls_leads : {A : Type 0} (n : ℕ) (p : Place) (f : A → Place) (r : Result A Refusal) → length p.rest < n → Leads p f r → Falls n f r
falls_leads n p f (Ok q) l t = let h = leads_length p (f q) t in omega arith
falls_leads n p f (Err e) l t = tt

digits_falls : (at : SourcePosition) (cs : List ℕ) → Falls (length cs) same (digits (record { at = at; rest = cs }))
unfolding digits
digits_falls at [] = tt
digits_falls at (c ∷ cs) =
    let h = leads_length (record { at = step at c; rest = cs }) (past class.Digit (step at c) cs) (past_leads class.Digit (step at c) cs) in
    let l : length (past class.Digit (step at c) cs).rest < length (c ∷ cs) = omega arith in
    falls_if (length (c ∷ cs)) same (is_ascii_digit c) _ _ l tt

whole_falls : (at : SourcePosition) (cs : List ℕ) → Falls (length cs) same (whole (record { at = at; rest = cs }))
unfolding whole
whole_falls at [] = tt
whole_falls at (c ∷ cs) =
    let l : length cs < length (c ∷ cs) = omega arith in
    falls_if (length (c ∷ cs)) same (c == 48) _ _ (falls_leads (length (c ∷ cs)) (record { at = step at c; rest = cs }) same (no_digit (record { at = step at c; rest = cs })) l (no_digit_leads (record { at = step at c; rest = cs }))) (digits_falls at (c ∷ cs))

number_falls : (p : Place) → Falls (length p.rest) (λ r. r.1) (number p)
unfolding number
number_falls p =
    let m = past_one class.Minus p in
    let h = leads_length p m (past_one_leads class.Minus p) in
    falls_then (length p.rest) same (λ r. r.1) (whole m) _ (falls_less (length m.rest) (length p.rest) same (whole m) h (whole_falls m.at m.rest))
    (λ w lw. falls_then (length p.rest) same (λ r. r.1) (fraction w) _ (falls_leads (length p.rest) w same (fraction w) lw (fraction_leads w))
    (λ f lf. falls_then (length p.rest) same (λ r. r.1) (exponent f) _ (falls_leads (length p.rest) f same (exponent f) lf (exponent_leads f))
    (λ e le. le)))

point_falls : (first at : SourcePosition) (cs : List ℕ) → Falls (length cs) same (point first (record { at = at; rest = cs }))
unfolding point
point_falls first at [] = tt
point_falls first at (c ∷ cs) =
    let l : length cs < length (c ∷ cs) = omega arith in falls_if (length (c ∷ cs)) same (c == 46) _ _ l tt

ellipsis_falls : (p : Place) → Falls (length p.rest) (λ r. r.1) (ellipsis p)
unfolding ellipsis
ellipsis_falls p =
    let n = length p.rest in
    falls_then n same (λ r. r.1) (point p.at p) _ (point_falls p.at p.at p.rest)
    (λ a la. falls_then n same (λ r. r.1) (point p.at a) _ (falls_less (length a.rest) n same (point p.at a) (omega arith) (point_falls p.at a.at a.rest))
    (λ b lb. falls_then n same (λ r. r.1) (point p.at b) _ (falls_less (length b.rest) n same (point p.at b) (omega arith) (point_falls p.at b.at b.rest))
    (λ d ld. ld)))

name_falls : (p q : Place) (n : ℕ) → length q.rest < n → length (name_from p q).1.rest < n
unfolding name_from
name_falls p q n l = let h = leads_length q (past class.NameContinue q.at q.rest) (past_leads class.NameContinue q.at q.rest) in omega arith

string_falls : (p : Place) (n : ℕ) → length p.rest < n → Falls n (λ r. r.1) (string p)
unfolding string
string_falls p n l =
    falls_then n same (λ r. r.1) (string_from plain p.at p.rest) _ (falls_leads n p same (string_from plain p.at p.rest) l (closing_leads plain p.at p.rest))
    (λ q lq. let h = leads_length q (past_one class.Quote q) (past_one_leads class.Quote q) in omega arith)

punctuated_falls : (o : Option Token) (c : ℕ) (at : SourcePosition) (q : Place) (n : ℕ) → length q.rest < n → Falls n (λ r. r.1) (punctuated o c at q)
punctuated_falls None c at q n l = tt
punctuated_falls (Some x) c at q n l = l

-- what was cut leaves fewer than n characters, unless it is the end
abbrev pub FallsIf : {A : Type 0} → ℕ → (A → Token) → (A → Place) → Result A Refusal → Type 0
FallsIf n g f (Ok q) = is_end (g q) ≡ false → length (f q).rest < n
FallsIf n g f (Err e) = Unit {0}

falls_any : {A : Type 0} (n : ℕ) (g : A → Token) (f : A → Place) (r : Result A Refusal) → Falls n f r → FallsIf n g f r
falls_any n g f (Ok q) l = λ _. l
falls_any n g f (Err e) l = tt

token_falls : (at : SourcePosition) (cs : List ℕ) → FallsIf (length cs) (λ r. r.0) (λ r. r.1) (token (record { at = at; rest = cs }))
unfolding token
token_falls at [] = λ h. absurd (cc)
token_falls at (c ∷ cs) =
    let n = length (c ∷ cs) in
    let p : Place = record { at = at; rest = c ∷ cs } in
    let q : Place = record { at = step at c; rest = cs } in
    let l : length cs < length (c ∷ cs) = omega arith in
    falls_any n (λ r. r.0) (λ r. r.1) _
    (falls_if n (λ r. r.1) (is_in class.NameStart c) _ _ (name_falls p q n l)
    (falls_if n (λ r. r.1) (is_ascii_digit c || c == 45) _ _ (number_falls p)
    (falls_if n (λ r. r.1) (c == 46) _ _ (ellipsis_falls p)
    (falls_if n (λ r. r.1) (c == 34) _ _ (string_falls q n l)
    (punctuated_falls (punctuator_of c) c at q n l)))))

ahead_tail : (b : Bool) (at : SourcePosition) (cs : List ℕ) → length (ahead_from b at cs).rest ≤ length cs
ahead_tail b at [] = omega arith
ahead_tail b at (c ∷ cs) =
    let goes_on = (b && is_in class.Comment c) || c == 35 in
    let h = ahead_tail goes_on (step at c) cs in
    elim (goes_on || is_in class.Ignored c) as (λ k. length (cond k (ahead_from goes_on (step at c) cs) (record { at = at; rest = c ∷ cs })).rest ≤ length (c ∷ cs))
    [ true ↦ omega arith | false ↦ omega arith ]

cut_falls : (p : Place) → FallsIf {A = Located × Place} (length p.rest) (λ r. r.0.item) (λ r. r.1) (cut p)
unfolding cut ahead
cut_falls p = on (token (ahead p)) (token_falls (ahead p).at (ahead p).rest)
  where
    on : (r : Result (Token × Place) Refusal) → FallsIf {A = Token × Place} (length (ahead p).rest) (λ r. r.0) (λ r. r.1) r → FallsIf {A = Located × Place} (length p.rest) (λ r. r.0.item) (λ r. r.1) (r >>= (λ r. Ok (record { item = r.0; span = record { start = (ahead p).at; end = r.1.at } }, r.1)))
    on (Ok q) l = λ h. let m = l h in let t = ahead_tail false p.at p.rest in omega arith
    on (Err e) l = tt

pub cut_shorter : (p q : Place) (t : Located) → cut p ≡ Ok (t, q) → is_end t.item ≡ false → length q.rest < length p.rest
cut_shorter p q t e = subst (FallsIf {A = Located × Place} (length p.rest) (λ r. r.0.item) (λ r. r.1)) e (cut_falls p)

pub runs_more : (p q r : Place) (front : List Located) (t : Located) → Runs p front q → cut q ≡ Ok (t, r) → is_end t.item ≡ false → Runs p (front ++ t ∷ []) r
runs_more p q r [] t e is more = (r, ap cut e ∙ is, more, refl)
runs_more p q r (s ∷ front) t (m, first, goes, rest) is more = (m, first, goes, runs_more m q r front t rest is more)

-- each answer of a lexer leaves fewer of them
pub fewer_left : (s t : Remains) (x : Located) → s.is_done ≡ false → cut s.place ≡ Ok (x, t.place) → t.is_done ≡ is_end x.item → items_left t < items_left s
fewer_left s t x goes e last = on (is_end x.item) refl
  where
    now : items_left s ≡ length s.place.rest + 1
    now = ap (λ b. cond b 0 (length s.place.rest + 1)) goes

    on : (b : Bool) → is_end x.item ≡ b → items_left t < items_left s
    on true h = let n : items_left t ≡ 0 = ap (λ b. cond b 0 (length t.place.rest + 1)) (last ∙ h) in let m = now in omega arith
    on false h = let n : items_left t ≡ length t.place.rest + 1 = ap (λ b. cond b 0 (length t.place.rest + 1)) (last ∙ h) in let m = now in let l = cut_shorter s.place t.place x e h in omega arith
