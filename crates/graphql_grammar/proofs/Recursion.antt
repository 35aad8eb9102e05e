-- Parsers that call themselves: the count of levels decides nothing, where it is enough.
use Rattle.std.proofs.Common.{◌≡◌, ℕ, zero, suc, ◌+◌, ◌-◌, ◌<◌, ◌≤◌, inl, Bool, true, false, ◌||◌, ◌&&◌, if◌then◌else◌, List, [], ◌∷◌, ◌++◌, length, length-append, Ok, Err, Some, None, ap, ◌∙◌, sym, refl, subst, arith}
use Rattle.graphql_text.specs.declared.position.Span.{Span}
use Rattle.graphql_text.specs.declared.position.SourcePosition.{SourcePosition}
use Rattle.graphql_text.specs.declared.token.Token.{Token}
use Rattle.graphql_grammar.specs.declared.kind.Kind.{Kind}
use Rattle.graphql_grammar.specs.declared.kind.Kind.TheVariants as k
use Rattle.graphql_grammar.specs.Kinds.{Kinds, only}
use Rattle.graphql_grammar.specs.Input.{Input, Located, Fault, Parser, Outcome, and_then, ◌>>=◌, pure, refusal, next, left}
use Rattle.graphql_grammar.specs.Steps.{sees, when, token, located, with_place, optional, until, until_from, items_between, some_between}
use Rattle.graphql_grammar.specs.Ahead.{mk, Free, kind_ahead}
use Rattle.graphql_grammar.specs.Relations.{end_of}
use Rattle.graphql_grammar.proofs.Stops.{Stop, done, refused, unread, ran_before, same_state}
use Rattle.graphql_grammar.proofs.Law.{Law, least}
use Rattle.graphql_grammar.proofs.Choices.{sees-ahead, token_reads, token_refuses}
use Rattle.graphql_grammar.proofs.Loops.{same_then}

-- it leaves no more tokens than it finds, and takes one at least where it is said to
abbrev pub Uses : {A : Type 0} → Bool → Parser A → Type 0
Uses {A} solid p = (i : Input) (x : A) (j : Input) → p i ≡ Ok (x, j) → left j + least solid ≤ left i

-- both read the same on inputs with fewer than n tokens
pub record Agree {A : Type 0} (solid : Bool) (n : ℕ) (p q : Parser A) : Type 0 where
  pub uses : Uses solid p
  pub same : (i : Input) → left i < n → p i ≡ q i

least_sum : (a b : Bool) (m n : ℕ) → n + least b ≤ m → (l : ℕ) → m + least a ≤ l → n + least (a || b) ≤ l
least_sum true b m n h l u = omega arith
least_sum false b m n h l u = omega arith

least_both : (a b : Bool) (m n : ℕ) → n + least a ≤ m → n + least (a && b) ≤ m
least_both true true m n h = h
least_both true false m n h = omega arith
least_both false b m n h = h

least_other : (a b : Bool) (m n : ℕ) → n + least b ≤ m → n + least (a && b) ≤ m
least_other true b m n h = h
least_other false true m n h = omega arith
least_other false false m n h = h

pub agree_self : {A : Type 0} {a : Bool} {n : ℕ} {p : Parser A} → Uses a p → Agree a n p p
agree_self uses = record { uses = uses; same = λ i fewer. refl }

pub agree_fewer : {A : Type 0} {a : Bool} {m n : ℕ} {p q : Parser A} → m ≤ n → Agree a n p q → Agree a m p q
agree_fewer below h = record { uses = h.uses; same = λ i fewer. h.same i (omega arith) }

uses_pure : {A : Type 0} (x : A) → Uses false (pure x)
uses_pure x i y j r = let l : left j ≡ left i = ap left (sym (same_state x y i j r)) in omega arith

pub agree_pure : {A : Type 0} {n : ℕ} (x : A) → Agree false n (pure x) (pure x)
agree_pure x = agree_self (uses_pure x)

below : (a : Bool) (m l n : ℕ) → m + least a ≤ l → l < n → m < n - least a
below true m l n h u = omega arith
below false m l n h u = omega arith

pub agree_bind : {A B : Type 0} {a b : Bool} {n : ℕ} {p q : Parser A} {g h : A → Parser B} → Agree a n p q → ((x : A) → Agree b (n - least a) (g x) (h x)) → Agree (a || b) n (p >>= g) (q >>= h)
agree_bind {a = a} {b = b} {n = n} {p = p} {q = q} {g = g} {h = h} one two = record {
  uses = λ i y j r. let u = ran_before (p i) g (y, j) r in least_sum a b (left u.0.1) (left j) ((two u.0.0).uses u.0.1 y j u.2) (left i) (one.uses i u.0.0 u.0.1 u.1);
  same = λ i fewer. same_then (n - least a) (p i) g h (λ x j r. below a (left j) (left i) n (one.uses i x j r) fewer) (λ x j few. (two x).same j few) ∙ ap (λ o. and_then o h) (one.same i fewer);
}

pub agree_made : {A B : Type 0} {a : Bool} {n : ℕ} {p q : Parser A} (make : A → B) → Agree a n p q → Agree a n (p >>= (λ x. pure (make x))) (q >>= (λ x. pure (make x)))
agree_made {a = a} {p = p} make one = record {
  uses = λ i y j r. let u = ran_before (p i) (λ x. pure (make x)) (y, j) r in let l : left u.0.1 ≡ left j = ap left (same_state (make u.0.0) y u.0.1 j u.2) in let few = one.uses i u.0.0 u.0.1 u.1 in omega arith;
  same = λ i fewer. ap (λ o. and_then o (λ x. pure (make x))) (one.same i fewer);
}

pub agree_located : {A : Type 0} {a : Bool} {n : ℕ} {p q : Parser A} → Agree a n p q → Agree a n (located p) (located q)
agree_located {a = a} {p = p} one = record {
  uses = λ i y j r. let u = ran_before (p i) (with_place i) (y, j) r in let l : left u.0.1 ≡ left j = ap left (same_state _ y u.0.1 j u.2) in let few = one.uses i u.0.0 u.0.1 u.1 in omega arith;
  same = λ i fewer. ap (λ o. and_then o (with_place i)) (one.same i fewer);
}

uses_when : {A : Type 0} (a b : Bool) (c : Kinds) (p q : Parser A) (v : Bool) (i : Input) (x : A) (j : Input) → Uses a p → Uses b q → (if v then p i else q i) ≡ Ok (x, j) → left j + least (a && b) ≤ left i
uses_when a b c p q true i x j one two r = least_both a b (left i) (left j) (one i x j r)
uses_when a b c p q false i x j one two r = least_other a b (left i) (left j) (two i x j r)

same_when : {A : Type 0} (v : Bool) (x y u w : Outcome A) → x ≡ u → y ≡ w → (if v then x else y) ≡ (if v then u else w)
same_when true x y u w h l = h
same_when false x y u w h l = l

pub agree_when : {A : Type 0} {a b : Bool} {n : ℕ} {p q r s : Parser A} (c : Kinds) → Agree a n p r → Agree b n q s → Agree (a && b) n (when c p q) (when c r s)
agree_when {a = a} {b = b} {p = p} {q = q} {r = r} {s = s} c one two = record {
  uses = λ i x j is. uses_when a b c p q (sees c i) i x j one.uses two.uses is;
  same = λ i fewer. same_when (sees c i) (p i) (q i) (r i) (s i) (one.same i fewer) (two.same i fewer);
}

uses_false : {A : Type 0} (a : Bool) (p : Parser A) → Uses a p → Uses false p
uses_false true p h i x j r = let l = h i x j r in omega arith
uses_false false p h i x j r = h i x j r

pub agree_optional : {A : Type 0} {a : Bool} {n : ℕ} {p q : Parser A} (c : Kinds) → Agree a n p q → Agree false n (optional c p) (optional c q)
agree_optional {a = a} {p = p} {q = q} c one = let w = agree_when c (agree_made Some one) (agree_pure None) in record { uses = λ i x j r. uses_false (a && false) (optional c p) w.uses i x j r; same = w.same }

-- ---- one token, and what meets its law

uses_token_by : {A : Type 0} (kinds : Kinds) (meaning : Token → A) (xs : List Located) (f : Span) (e : SourcePosition) (x : A) (j : Input) (b : Bool) → kinds k.EndOfFile ≡ false → kinds (kind_ahead xs) ≡ b → token kinds meaning (mk xs f e) ≡ Ok (x, j) → left j + 1 ≤ length xs
uses_token_by kinds meaning [] f e x j true ends is r = absurd (cc)
uses_token_by kinds meaning (a ∷ xs) f e x j true ends is r = let l : length xs ≡ left j = ap left (same_state (meaning a.item) x (mk xs f a.span.end) j (sym (token_reads kinds meaning a xs f e is) ∙ r)) in omega arith
uses_token_by kinds meaning xs f e x j false ends is r = absurd (let q = sym (token_refuses kinds meaning xs f e is) ∙ r in cc)

uses_token : {A : Type 0} (kinds : Kinds) (meaning : Token → A) → kinds k.EndOfFile ≡ false → Uses true (token kinds meaning)
uses_token kinds meaning ends i x j r = uses_token_by kinds meaning i.ahead i.finish i.end x j (kinds (kind_ahead i.ahead)) ends refl r

pub agree_token : {A : Type 0} {n : ℕ} (kinds : Kinds) (meaning : Token → A) → kinds k.EndOfFile ≡ false → Agree true n (token kinds meaning) (token kinds meaning)
agree_token kinds meaning ends = agree_self (uses_token kinds meaning ends)

uses_stop : {A : Type 0} (Bad : Located → Fault → Type 0) (Good : Located → Type 0) (a : Bool) (C : List Located → Type 0) (R : List Located → A → Type 0) (p : Parser A) (xs : List Located) (f : Span) (e : SourcePosition) (x : A) (j : Input)
    → Stop Bad Good (least a) C R p f e xs → p (mk xs f e) ≡ Ok (x, j) → left j + least a ≤ length xs
uses_stop Bad Good a C R p xs f e x j (done seen rest y is many r on) h =
    let state : j ≡ mk rest f (end_of e seen) = same_state x y j (mk rest f (end_of e seen)) (sym h ∙ ap (λ ws. p (mk ws f e)) is ∙ on rest (inl refl)) in
    let size : left j ≡ length rest = ap left state in let whole : length xs ≡ length (seen ++ rest) = ap length is in let l = length-append seen rest in omega arith
uses_stop Bad Good a C R p xs f e x j (refused seen rest is halts on) h = absurd (let q = sym h ∙ ap (λ ws. p (mk ws f e)) is ∙ halts rest refl in cc)
uses_stop Bad Good a C R p xs f e x j (unread seen rest b err is bad halts good on) h = absurd (let q = sym h ∙ ap (λ ws. p (mk ws f e)) is ∙ halts rest in cc)

pub uses_law : {A : Type 0} (Bad : Located → Fault → Type 0) (Good : Located → Type 0) {a : Bool} {starts stops : Kinds} {R : List Located → A → Type 0} {p : Parser A} → ((n : ℕ) → Law Bad Good a starts stops R n p) → Uses a p
uses_law Bad Good {a = a} {stops = stops} {R = R} {p = p} l i x j r = uses_stop Bad Good a (Free stops) R p i.ahead i.finish i.end x j ((l (suc (left i))).runs.stop i.ahead i.finish i.end (omega arith)) r

-- ---- loops

module _ {A : Type 0} {n : ℕ} {p q : Parser A} (one : Agree true n p q) where
  module _ (close : Kind) (plain : only close k.EndOfFile ≡ false) where
    closed : List A → Parser (List A)
    closed found = λ i. Ok (found, next i)

    uses_turn : (m : ℕ) (found : List A) (xs : List Located) (f : Span) (e : SourcePosition) (x : List A) (j : Input) (b : Bool) → ((more : List A) → Uses true (until_from close p m more))
        → only close (kind_ahead xs) ≡ b → (if b then Ok (found, next (mk xs f e)) else and_then (p (mk xs f e)) (λ y. until_from close p m (found ++ y ∷ []))) ≡ Ok (x, j) → left j + 1 ≤ length xs
    unfolding next
    uses_turn m found [] f e x j true others is r = absurd (cc)
    uses_turn m found (a ∷ xs) f e x j true others is r = let l : length xs ≡ left j = ap left (same_state found x (mk xs f a.span.end) j r) in omega arith
    uses_turn m found xs f e x j false others is r = let u = ran_before (p (mk xs f e)) (λ y. until_from close p m (found ++ y ∷ [])) (x, j) r in
        let few = one.uses (mk xs f e) u.0.0 u.0.1 u.1 in let more = others (found ++ u.0.0 ∷ []) u.0.1 x j u.2 in omega arith

    uses_until_from : (m : ℕ) (found : List A) → Uses true (until_from close p m found)
    unfolding until_from
    uses_until_from zero found i x j r = absurd (cc)
    uses_until_from (suc m) found i x j r = uses_turn m found i.ahead i.finish i.end x j (only close (kind_ahead i.ahead)) (uses_until_from m) refl
        (let P = λ (b : Bool). (if b then Ok (found, next i) else and_then (p i) (λ y. until_from close p m (found ++ y ∷ []))) ≡ Ok (x, j) in subst P (sees-ahead (only close) i.ahead i.finish i.end) r)

    same_until_from : (m : ℕ) (found : List A) (i : Input) → left i < n → until_from close p m found i ≡ until_from close q m found i
    unfolding until_from
    same_until_from zero found i fewer = refl
    same_until_from (suc m) found i fewer = same_when (sees (only close) i) (Ok (found, next i)) _ (Ok (found, next i)) _ refl
        (same_then n (p i) (λ y. until_from close p m (found ++ y ∷ [])) (λ y. until_from close q m (found ++ y ∷ [])) (λ x j r. let l = one.uses i x j r in omega arith) (λ x j few. same_until_from m (found ++ x ∷ []) j few)
        ∙ ap (λ o. and_then o (λ y. until_from close q m (found ++ y ∷ []))) (one.same i fewer))

    pub agree_until : (found : List A) → Agree true n (until close p found) (until close q found)
    agree_until found = record { uses = λ i x j r. uses_until_from (left i) found i x j r; same = λ i fewer. same_until_from (left i) found i fewer }

  -- items between two tokens
  module _ (w close : Kind) (opens : only w k.EndOfFile ≡ false) (plain : only close k.EndOfFile ≡ false) where
    pub agree_between : Agree true (suc n) (items_between w close p) (items_between w close q)
    agree_between = agree_bind (agree_token (only w) (λ v. tt {0}) opens) (λ u. agree_fewer (omega arith) (agree_until close plain []))

    pub agree_some_between : Agree true (suc n) (some_between w close p) (some_between w close q)
    agree_some_between = agree_bind (agree_token (only w) (λ v. tt {0}) opens) (λ u. agree_bind (agree_fewer (omega arith) one) (λ x. agree_fewer (omega arith) (agree_until close plain (x ∷ []))))

-- ---- a parser that calls itself

module _ {A : Type 0} (layer : Parser A → Parser A) (from : ℕ → Parser A) (at_zero : (i : Input) → from 0 i ≡ Err (refusal i)) (at_suc : (n : ℕ) (i : Input) → from (suc n) i ≡ layer (from n) i)
    (deeper : (n : ℕ) (p q : Parser A) → Agree true n p q → Agree true (suc n) (layer p) (layer q)) where
  -- with as many levels as tokens are left, and one more
  abbrev pub fix : Parser A
  fix = λ i. from (suc (left i)) i

  uses_from : (m : ℕ) → Uses true (from m)
  uses_from zero i x j r = absurd (let q = sym (at_zero i) ∙ r in cc)
  uses_from (suc m) i x j r = (deeper 0 (from m) (from m) (agree_self (uses_from m))).uses i x j (sym (at_suc m i) ∙ r)

  enough : (m n : ℕ) (i : Input) → left i < m → left i < n → from m i ≡ from n i
  enough zero n i a b = absurd (omega arith)
  enough (suc m) zero i a b = absurd (omega arith)
  enough (suc m) (suc n) i a b = at_suc m i
      ∙ (deeper (left i) (from m) (from n) (record { uses = uses_from m; same = λ j fewer. enough m n j (omega arith) (omega arith) })).same i (omega arith) ∙ sym (at_suc n i)

  pub unfolds : (i : Input) → fix i ≡ layer fix i
  unfolds i = at_suc (left i) i
      ∙ (deeper (left i) (from (left i)) fix (record { uses = uses_from (left i); same = λ j fewer. enough (left i) (suc (left j)) j (omega arith) (omega arith) })).same i (omega arith)

  pub uses_fix : Uses true fix
  uses_fix i x j r = uses_from (suc (left i)) i x j r
