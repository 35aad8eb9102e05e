-- A text has one list of tokens, or one first fault.
use Rattle.std.proofs.Common.{◌≡◌, ◌⊎◌, inl, inr, ◌<◌, zero, suc, length, Bool, arith, ℕ, List, [], ◌∷◌, ◌++◌, true, false, Result, Ok, Err, sym, ap, subst, ◌∙◌, refl}
use Rattle.std.proofs.lemmas.Bool.{false≢true}
use Rattle.graphql_text.specs.Reading.{Place, Refusal, start_of}
use Rattle.graphql_text.specs.Tokens.{Located, Tokens, FirstFault, Runs, cut, is_end}
use Rattle.graphql_lexer.proofs.Falls.{cut_shorter}

ok_inj : {A E : Type 0} (r : Result A E) (x y : A) → r ≡ Ok x → r ≡ Ok y → x ≡ y
ok_inj r x y a b = cc

err_inj : {A E : Type 0} (r : Result A E) (x y : E) → r ≡ Err x → r ≡ Err y → x ≡ y
err_inj r x y a b = cc

ok_err : {A E : Type 0} (r : Result A E) (x : A) (e : E) → r ≡ Ok x → r ≡ Err e → ⊥
ok_err r x e a b = cc

ok_same : (p : Place) (t u : Located) (q r : Place) → cut p ≡ Ok (t, q) → cut p ≡ Ok (u, r) → (t ≡ u) × (q ≡ r)
ok_same p t u q r a b = let e = ok_inj (cut p) (t, q) (u, r) a b in (ap (λ z. z.0) e, ap (λ z. z.1) e)

-- two runs from one place, each to where a run stops
ends_same : (p q r : Place) (xs ys : List Located) (t u : Located) (v w : Place) → Runs p xs q → Runs p ys r → cut q ≡ Ok (t, v) → is_end t.item ≡ true → cut r ≡ Ok (u, w) → is_end u.item ≡ true → (xs ++ t ∷ []) ≡ (ys ++ u ∷ [])
ends_same p q r [] [] t u v w a b c d e f = ap (λ z. z ∷ []) (ok_same p t u v w (ap cut a ∙ c) (ap cut b ∙ e)).0
ends_same p q r [] (y ∷ ys) t u v w a (m, first, goes, rest) c d e f =
    let s = (ok_same p t y v m (ap cut a ∙ c) first).0 in absurd (false≢true (sym goes ∙ ap (λ z. is_end z.item) (sym s) ∙ d))
ends_same p q r (x ∷ xs) [] t u v w (m, first, goes, rest) b c d e f =
    let s = (ok_same p u x w m (ap cut b ∙ e) first).0 in absurd (false≢true (sym goes ∙ ap (λ z. is_end z.item) (sym s) ∙ f))
ends_same p q r (x ∷ xs) (y ∷ ys) t u v w (m, first, goes, rest) (n, first', goes', rest') c d e f =
    let s = ok_same p x y m n first first' in
    let P : Place → Type 0 = λ z. Runs z ys r in
    ap (λ z. z ∷ (xs ++ t ∷ [])) s.0 ∙ ap (λ z. y ∷ z) (ends_same m q r xs ys t u v w rest (subst P (sym s.1) rest') c d e f)

pub one_list : (text : List ℕ) (ts us : List Located) → Tokens text ts → Tokens text us → ts ≡ us
one_list text ts us a b = a.is ∙ ends_same (start_of text) a.before b.before a.front b.front a.last b.last a.after b.after a.runs b.runs a.ends a.end b.ends b.end ∙ sym b.is

faults : (p q r : Place) (xs ys : List Located) (t : Located) (v : Place) (e : Refusal) → Runs p xs q → Runs p ys r → cut q ≡ Ok (t, v) → is_end t.item ≡ true → cut r ≡ Err e → ⊥
faults p q r [] [] t v e a b c d f = ok_err (cut p) (t, v) e (ap cut a ∙ c) (ap cut b ∙ f)
faults p q r [] (y ∷ ys) t v e a (m, first, goes, rest) c d f =
    let s = (ok_same p t y v m (ap cut a ∙ c) first).0 in false≢true (sym goes ∙ ap (λ z. is_end z.item) (sym s) ∙ d)
faults p q r (x ∷ xs) [] t v e (m, first, goes, rest) b c d f = ok_err (cut p) (x, m) e first (ap cut b ∙ f)
faults p q r (x ∷ xs) (y ∷ ys) t v e (m, first, goes, rest) (n, first', goes', rest') c d f =
    let s = ok_same p x y m n first first' in
    let P : Place → Type 0 = λ z. Runs z ys r in
    faults m q r xs ys t v e rest (subst P (sym s.1) rest') c d f

pub not_both : (text : List ℕ) (ts : List Located) (e : Refusal) → Tokens text ts → FirstFault text e → ⊥
not_both text ts e a b = faults (start_of text) a.before b.before a.front b.front a.last a.after e a.runs b.runs a.ends a.end b.refuses

fault_same : (p q r : Place) (xs ys : List Located) (e f : Refusal) → Runs p xs q → Runs p ys r → cut q ≡ Err e → cut r ≡ Err f → e ≡ f
fault_same p q r [] [] e f a b c d = err_inj (cut p) e f (ap cut a ∙ c) (ap cut b ∙ d)
fault_same p q r [] (y ∷ ys) e f a (m, first, goes, rest) c d = absurd (ok_err (cut p) (y, m) e first (ap cut a ∙ c))
fault_same p q r (x ∷ xs) [] e f (m, first, goes, rest) b c d = absurd (ok_err (cut p) (x, m) f first (ap cut b ∙ d))
fault_same p q r (x ∷ xs) (y ∷ ys) e f (m, first, goes, rest) (n, first', goes', rest') c d =
    let s = ok_same p x y m n first first' in
    let P : Place → Type 0 = λ z. Runs z ys r in
    fault_same m q r xs ys e f rest (subst P (sym s.1) rest') c d

pub one_fault : (text : List ℕ) (e f : Refusal) → FirstFault text e → FirstFault text f → e ≡ f
one_fault text e f a b = fault_same (start_of text) a.before b.before a.front b.front e f a.runs b.runs a.refuses b.refuses

-- how reading goes on from a place
pub record Stops (p : Place) : Type 0 where
  pub front : List Located
  pub last : Located
  pub before : Place
  pub after : Place
  pub runs : Runs p front before
  pub ends : cut before ≡ Ok (last, after)
  pub end : is_end last.item ≡ true

pub record Fails (p : Place) : Type 0 where
  pub fault : Refusal
  pub front : List Located
  pub before : Place
  pub runs : Runs p front before
  pub refuses : cut before ≡ Err fault

reads_from : (n : ℕ) (p : Place) → length p.rest < suc n → ((q : Place) → length q.rest < n → Stops q ⊎ Fails q) → Stops p ⊎ Fails p
reads_from n p h again = on (cut p) refl
  where
    more : (t : Located) (q : Place) → cut p ≡ Ok (t, q) → is_end t.item ≡ false → Stops q ⊎ Fails q → Stops p ⊎ Fails p
    more t q e goes (inl s) = inl (record { front = t ∷ s.front; last = s.last; before = s.before; after = s.after; runs = (q, e, goes, s.runs); ends = s.ends; end = s.end })
    more t q e goes (inr s) = inr (record { fault = s.fault; front = t ∷ s.front; before = s.before; runs = (q, e, goes, s.runs); refuses = s.refuses })

    found : (t : Located) (q : Place) → cut p ≡ Ok (t, q) → (b : Bool) → is_end t.item ≡ b → Stops p ⊎ Fails p
    found t q e true s = inl (record { front = []; last = t; before = p; after = q; runs = refl; ends = e; end = s })
    found t q e false s = let l = cut_shorter p q t e s in more t q e s (again q (omega arith))

    on : (r : Result (Located × Place) Refusal) → cut p ≡ r → Stops p ⊎ Fails p
    on (Ok x) e = found x.0 x.1 e (is_end x.0.item) refl
    on (Err f) e = inr (record { fault = f; front = []; before = p; runs = refl; refuses = e })

reads : (n : ℕ) (p : Place) → length p.rest < n → Stops p ⊎ Fails p
reads zero p h = absurd (omega arith)
reads (suc n) p h = reads_from n p h (λ q k. reads n q k)

pub either_way : (text : List ℕ) → ((ts : List Located) × Tokens text ts) ⊎ ((e : Refusal) × FirstFault text e)
either_way text = on (reads (suc (length text)) (start_of text) (omega arith))
  where
    on : Stops (start_of text) ⊎ Fails (start_of text) → ((ts : List Located) × Tokens text ts) ⊎ ((e : Refusal) × FirstFault text e)
    on (inl s) = inl (s.front ++ s.last ∷ [], record { front = s.front; last = s.last; is = refl; before = s.before; after = s.after; runs = s.runs; ends = s.ends; end = s.end })
    on (inr s) = inr (s.fault, record { front = s.front; before = s.before; runs = s.runs; refuses = s.refuses })
