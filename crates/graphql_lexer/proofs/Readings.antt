-- What is read from a place, with the characters that were passed.
use Rattle.std.proofs.Common.{subst, inl, inr, ◌≡◌, ℕ, Bool, true, false, cond, List, [], ◌∷◌, ◌++◌, sym, ap, ◌∙◌, refl, Result, Ok, Err, append_assoc}
use Rattle.graphql_text.specs.declared.position.SourcePosition.{SourcePosition}
use Rattle.graphql_text.specs.declared.token.LexerError.{LexerError}
use Rattle.graphql_text.specs.declared.class.Class.{Class}
use Rattle.graphql_text.specs.Position.{step}
use Rattle.graphql_text.specs.Reading.{Place, Refusal, ◌>>=◌, is_in, begins, past, past_one}
use Rattle.graphql_text.specs.Grammar.{Each, NextIsNot, IsOptional}
use Rattle.graphql_lexer.proofs.Leading.{advance, advance-append}

-- from one place to another by these characters
pub record Goes (p : Place) (front : List ℕ) (q : Place) : Type 0 where
  pub is : p.rest ≡ front ++ q.rest
  pub counts : q.at ≡ advance p.at front

pub stays : (p : Place) → Goes p [] p
stays p = record { is = refl; counts = refl }

pub goes_step : (at : SourcePosition) (c : ℕ) (cs front : List ℕ) (q : Place) → Goes (record { at = step at c; rest = cs }) front q → Goes (record { at = at; rest = c ∷ cs }) (c ∷ front) q
goes_step at c cs front q g = record { is = ap (λ z. c ∷ z) g.is; counts = g.counts }

pub goes_one : (at : SourcePosition) (c : ℕ) (cs : List ℕ) → Goes (record { at = at; rest = c ∷ cs }) (c ∷ []) (record { at = step at c; rest = cs })
goes_one at c cs = record { is = refl; counts = refl }

pub goes_then : (p q r : Place) (a b : List ℕ) → Goes p a q → Goes q b r → Goes p (a ++ b) r
goes_then p q r a b g h = record {
  is = g.is ∙ ap (λ z. a ++ z) h.is ∙ sym (append_assoc a b r.rest);
  counts = h.counts ∙ ap (λ z. advance z b) g.counts ∙ sym (advance-append p.at a b);
}

-- a fault of a reading from p: where, and what is wrong there
pub record Fails (p : Place) (F : LexerError → List ℕ → List ℕ → Type 0) (e : Refusal) : Type 0 where
  pub front : List ℕ
  pub stop : Place
  pub goes : Goes p front stop
  pub start : e.span.start ≡ stop.at
  pub end : e.span.end ≡ stop.at
  pub fault : F e.item front stop.rest

pub record Done {A : Type 0} (p : Place) (f : A → Place) (G : List ℕ → A → Type 0) (x : A) : Type 0 where
  pub front : List ℕ
  pub goes : Goes p front (f x)
  pub good : G front x

-- a reading from p is done with G of what it passed, or fails with F
abbrev pub DoneOrFails : {A : Type 0} → Place → (A → Place) → (List ℕ → A → Type 0) → (LexerError → List ℕ → List ℕ → Type 0) → Result A Refusal → Type 0
DoneOrFails p f G F (Ok x) = Done p f G x
DoneOrFails p f G F (Err e) = Fails p F e

pub reads_if : {A : Type 0} (p : Place) (f : A → Place) (G : List ℕ → A → Type 0) (F : LexerError → List ℕ → List ℕ → Type 0) (b : Bool) (r s : Result A Refusal) → (b ≡ true → DoneOrFails p f G F r) → (b ≡ false → DoneOrFails p f G F s) → DoneOrFails p f G F (cond b r s)
reads_if p f G F true r s x y = x refl
reads_if p f G F false r s x y = y refl

pub reads_map : {A : Type 0} (p : Place) (f : A → Place) (G H : List ℕ → A → Type 0) (E F : LexerError → List ℕ → List ℕ → Type 0) (r : Result A Refusal) → DoneOrFails p f G E r → ((a : List ℕ) (x : A) → p.rest ≡ a ++ (f x).rest → G a x → H a x) → ((e : LexerError) (a rest : List ℕ) → p.rest ≡ a ++ rest → E e a rest → F e a rest) → DoneOrFails p f H F r
reads_map p f G H E F (Ok x) d g h = record { front = d.front; goes = d.goes; good = g d.front x d.goes.is d.good }
reads_map p f G H E F (Err e) d g h = record { front = d.front; stop = d.stop; goes = d.goes; start = d.start; end = d.end; fault = h e.item d.front d.stop.rest d.goes.is d.fault }

-- a reading behind characters that were passed already
pub reads_on : {A : Type 0} (p q : Place) (a : List ℕ) (f : A → Place) (G : List ℕ → A → Type 0) (F : LexerError → List ℕ → List ℕ → Type 0) (r : Result A Refusal) → Goes p a q → DoneOrFails q f (λ b x. G (a ++ b) x) (λ e b rest. F e (a ++ b) rest) r → DoneOrFails p f G F r
reads_on p q a f G F (Ok x) g d = record { front = a ++ d.front; goes = goes_then p q (f x) a d.front g d.goes; good = d.good }
reads_on p q a f G F (Err e) g d = record { front = a ++ d.front; stop = d.stop; goes = goes_then p q d.stop a d.front g d.goes; start = d.start; end = d.end; fault = d.fault }

pub reads_then : {A B : Type 0} (p : Place) (f : A → Place) (g : B → Place) (G : List ℕ → A → Type 0) (H : List ℕ → B → Type 0) (F : LexerError → List ℕ → List ℕ → Type 0) (r : Result A Refusal) (k : A → Result B Refusal) → DoneOrFails p f G F r → ((a : List ℕ) (x : A) → Goes p a (f x) → G a x → DoneOrFails (f x) g (λ b y. H (a ++ b) y) (λ e b rest. F e (a ++ b) rest) (k x)) → DoneOrFails p g H F (r >>= k)
reads_then p f g G H F (Ok x) k d m = reads_on p (f x) d.front g H F (k x) d.goes (m d.front x d.goes d.good)
reads_then p f g G H F (Err e) k d m = d

-- ---- kinds of characters

pub record Past (k : Class) (p q : Place) : Type 0 where
  pub front : List ℕ
  pub goes : Goes p front q
  pub each : Each (is_in k) front
  pub ends : NextIsNot (is_in k) q.rest

pub past_reads : (k : Class) (at : SourcePosition) (cs : List ℕ) → Past k (record { at = at; rest = cs }) (past k at cs)
past_reads k at [] = record { front = []; goes = stays (record { at = at; rest = [] }); each = tt; ends = tt }
past_reads k at (c ∷ cs) = on (is_in k c) refl (past_reads k (step at c) cs)
  where
    on : (b : Bool) → is_in k c ≡ b → Past k (record { at = step at c; rest = cs }) (past k (step at c) cs) → Past k (record { at = at; rest = c ∷ cs }) (cond b (past k (step at c) cs) (record { at = at; rest = c ∷ cs }))
    on true e d =
        record { front = c ∷ d.front; goes = goes_step at c cs d.front (past k (step at c) cs) d.goes; each = (e, d.each); ends = d.ends }
    on false e d = record { front = []; goes = stays (record { at = at; rest = c ∷ cs }); each = tt; ends = e }

-- one character of a kind that comes next
pub record One (k : Class) (p q : Place) : Type 0 where
  pub head : ℕ
  pub is_of : is_in k head ≡ true
  pub goes : Goes p (head ∷ []) q

pub past_one_true : (k : Class) (p : Place) → begins k p ≡ true → One k p (past_one k p)
unfolding begins past_one
past_one_true k p = on p.at p.rest
  where
    on : (at : SourcePosition) (cs : List ℕ) → begins k (record { at = at; rest = cs }) ≡ true → One k (record { at = at; rest = cs }) (past_one k (record { at = at; rest = cs }))
    on at [] e = absurd (cc)
    on at (c ∷ cs) e = with_head (is_in k c) refl
      where
        with_head : (b : Bool) → is_in k c ≡ b → One k (record { at = at; rest = c ∷ cs }) (cond b (record { at = step at c; rest = cs }) (record { at = at; rest = c ∷ cs }))
        with_head true h = record { head = c; is_of = h; goes = goes_one at c cs }
        with_head false h = absurd (cc)

pub begins_false : (k : Class) (p : Place) → begins k p ≡ false → NextIsNot (is_in k) p.rest
unfolding begins
begins_false k p = on p.at p.rest
  where
    on : (at : SourcePosition) (cs : List ℕ) → begins k (record { at = at; rest = cs }) ≡ false → NextIsNot (is_in k) cs
    on at [] e = tt
    on at (c ∷ cs) e = e

pub begins_not : (k : Class) (p : Place) → NextIsNot (is_in k) p.rest → begins k p ≡ false
unfolding begins
begins_not k p = on p.at p.rest
  where
    on : (at : SourcePosition) (cs : List ℕ) → NextIsNot (is_in k) cs → begins k (record { at = at; rest = cs }) ≡ false
    on at [] h = refl
    on at (c ∷ cs) h = h

pub past_one_false : (k : Class) (p : Place) → begins k p ≡ false → past_one k p ≡ p
unfolding begins past_one
past_one_false k p = on p.at p.rest
  where
    on : (at : SourcePosition) (cs : List ℕ) → begins k (record { at = at; rest = cs }) ≡ false → past_one k (record { at = at; rest = cs }) ≡ record { at = at; rest = cs }
    on at [] e = refl
    on at (c ∷ cs) e = ap (λ b. cond b (record { at = step at c; rest = cs }) (record { at = at; rest = c ∷ cs })) e

-- what passing one character of a kind, if it comes next, leads to
pub record MaybeOne (k : Class) (p q : Place) : Type 0 where
  pub front : List ℕ
  pub goes : Goes p front q
  pub is : IsOptional k front
  pub ends : (front ≡ []) → NextIsNot (is_in k) p.rest

pub past_one_reads : (k : Class) (p : Place) → MaybeOne k p (past_one k p)
past_one_reads k p = on (begins k p) refl
  where
    on : (b : Bool) → begins k p ≡ b → MaybeOne k p (past_one k p)
    on true e = let o = past_one_true k p e in record { front = o.head ∷ []; goes = o.goes; is = inr (o.head, o.is_of, refl); ends = λ z. absurd (cc) }
    on false e =
        let P : Place → Type 0 = λ q. Goes p [] q in
        record { front = []; goes = subst P (sym (past_one_false k p e)) (stays p); is = inl refl; ends = λ z. begins_false k p e }
