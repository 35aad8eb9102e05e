-- Where a parser stops: with a tree, at a token that no sentence could have there, or at a scalar that its type refuses.
use Rattle.std.proofs.Common.{◌≡◌, ℕ, ◌+◌, ◌-◌, ◌<◌, ◌≤◌, ◌⊎◌, inl, inr, List, [], ◌∷◌, ◌++◌, length, length-append, Ok, Err, ap, ◌∙◌, sym, refl, subst, append_assoc, arith}
use Rattle.graphql_text.specs.declared.position.Span.{Span}
use Rattle.graphql_text.specs.declared.position.SourcePosition.{SourcePosition}
use Rattle.graphql_grammar.specs.Input.{Input, Located, Fault, Parser, Outcome, and_then, ◌>>=◌, pure}
use Rattle.graphql_grammar.specs.Ahead.{mk, Like, refused_at, kind_ahead}
use Rattle.graphql_grammar.specs.Relations.{end_of}

-- some tokens lead from there to a tree, whatever follows that may follow
pub record Continues {A : Type 0} (C : List Located → Type 0) (p : Parser A) (f : Span) (e : SourcePosition) (ts : List Located) : Type 0 where
  pub more : List Located
  pub tree : A
  pub last : SourcePosition
  pub reads_on : (zs : List Located) → C zs → p (mk (ts ++ (more ++ zs)) f e) ≡ Ok (tree, mk zs f last)

-- where q reads on, what it reads may follow p
abbrev pub Starts : {A : Type 0} (F : List Located → Type 0) (q : Parser A) (C : List Located → Type 0) → Type 0
Starts {A} F q C = (i j : Input) (x : A) → q i ≡ Ok (x, j) → C j.ahead → F i.ahead

abbrev pub Any : List Located → Type 0
Any zs = Unit {0}

pub any_starts : {A : Type 0} (q : Parser A) (C : List Located → Type 0) → Starts Any q C
any_starts q C i j x h c = tt

pub end-append : (e : SourcePosition) (ts us : List Located) → end_of e (ts ++ us) ≡ end_of (end_of e ts) us
end-append e [] us = refl
end-append e (a ∷ ts) us = end-append a.span.end ts us

pub like-append : (ts ys zs : List Located) → Like ys zs → Like (ts ++ ys) (ts ++ zs)
like-append [] ys zs h = h
like-append (a ∷ ts) ys zs h = refl

-- what ran before
pub ran_before : {A B : Type 0} (o : Outcome A) (g : A → Parser B) (q : B × Input) → and_then o g ≡ Ok q → (p : A × Input) × (o ≡ Ok p) × (g p.0 p.1 ≡ Ok q)
ran_before (Ok p) g q e = (p, refl, e)
ran_before (Err x) g q e = cc

module _ (Bad : Located → Fault → Type 0) (Good : Located → Type 0) where
  -- Where p stops on these tokens. What it read it reads on all inputs that go on alike, and where it stopped some other tokens lead on.
  pub data Stop {A : Type 0} (k : ℕ) (C : List Located → Type 0) (R : List Located → A → Type 0) (p : Parser A) (f : Span) (e : SourcePosition) (xs : List Located) : Type 0 where
    done : (seen rest : List Located) (x : A) → xs ≡ seen ++ rest → k ≤ length seen → R seen x
        → ((zs : List Located) → (Like rest zs) ⊎ (C zs) → p (mk (seen ++ zs) f e) ≡ Ok (x, mk zs f (end_of e seen))) → Stop k C R p f e xs
    refused : (seen rest : List Located) → xs ≡ seen ++ rest → ((zs : List Located) → Like rest zs → p (mk (seen ++ zs) f e) ≡ Err (refused_at f zs))
        → Continues C p f e seen → Stop k C R p f e xs
    unread : (seen rest : List Located) (a : Located) (err : Fault) → xs ≡ seen ++ a ∷ rest → Bad a err → ((zs : List Located) → p (mk (seen ++ a ∷ zs) f e) ≡ Err err)
        → ((b : Located) → Good b → Continues C p f e (seen ++ b ∷ [])) → Continues C p f e seen → Stop k C R p f e xs

  -- the same of all inputs with fewer than n tokens
  pub record Runs {A : Type 0} (k : ℕ) (C : List Located → Type 0) (R : List Located → A → Type 0) (n : ℕ) (p : Parser A) : Type 0 where
    pub stop : (xs : List Located) (f : Span) (e : SourcePosition) → length xs < n → Stop k C R p f e xs

  abbrev pub Sentence : {A : Type 0} (C : List Located → Type 0) (p : Parser A) → Type 0
  Sentence {A} C p = (f : Span) (e : SourcePosition) → Continues C p f e []

  continues_prefix : {A : Type 0} (F C : List Located → Type 0) (p q : Parser A) (f : Span) (e : SourcePosition) (seen ts : List Located) → Starts F q C
      → ((zs : List Located) → F zs → p (mk (seen ++ zs) f e) ≡ q (mk zs f (end_of e seen))) → Continues C q f (end_of e seen) ts → Continues C p f e (seen ++ ts)
  continues_prefix F C p q f e seen ts starts same c = record {
    more = c.more;
    tree = c.tree;
    last = c.last;
    reads_on = λ zs h. let r = c.reads_on zs h in
        ap (λ ws. p (mk ws f e)) (append_assoc seen ts (c.more ++ zs)) ∙ same (ts ++ (c.more ++ zs)) (starts (mk (ts ++ (c.more ++ zs)) f (end_of e seen)) (mk zs f c.last) c.tree r h) ∙ r;
  }

  -- p goes on as q once it has read some tokens
  pub stop_prefix : {A : Type 0} (k m : ℕ) (F C : List Located → Type 0) (R Rest : List Located → A → Type 0) (p q : Parser A) (f : Span) (e : SourcePosition) (seen rest : List Located)
      → Starts F q C → m ≤ length seen + k → ((us : List Located) (x : A) → Rest us x → R (seen ++ us) x)
      → ((zs : List Located) → (Like rest zs) ⊎ (F zs) → p (mk (seen ++ zs) f e) ≡ q (mk zs f (end_of e seen)))
      → Stop k C Rest q f (end_of e seen) rest → Stop m C R p f e (seen ++ rest)
  stop_prefix k m F C R Rest p q f e seen rest starts bound map same (done later behind x is fewer r reads) =
      done (seen ++ later) behind x (ap (λ ws. seen ++ ws) is ∙ sym (append_assoc seen later behind)) (let l = length-append seen later in omega arith) (map later x r)
      (λ zs h. let read = reads zs h in
      let ok : (Like rest (later ++ zs)) ⊎ (F (later ++ zs)) = elim h [ inl l ↦ inl (ap kind_ahead is ∙ like-append later behind zs l) | inr c ↦ inr (starts (mk (later ++ zs) f (end_of e seen)) (mk zs f (end_of (end_of e seen) later)) x read c) ] in
      ap (λ ws. p (mk ws f e)) (append_assoc seen later zs) ∙ same (later ++ zs) ok ∙ read ∙ ap (λ y. Ok (x, mk zs f y)) (sym (end-append e seen later)))
  stop_prefix k m F C R Rest p q f e seen rest starts bound map same (refused later behind is reads on) =
      refused (seen ++ later) behind (ap (λ ws. seen ++ ws) is ∙ sym (append_assoc seen later behind))
      (λ zs l. ap (λ ws. p (mk ws f e)) (append_assoc seen later zs) ∙ same (later ++ zs) (inl (ap kind_ahead is ∙ like-append later behind zs l)) ∙ reads zs l)
      (continues_prefix F C p q f e seen later starts (λ zs h. same zs (inr h)) on)
  stop_prefix k m F C R Rest p q f e seen rest starts bound map same (unread later behind a err is bad reads good on) =
      unread (seen ++ later) behind a err (ap (λ ws. seen ++ ws) is ∙ sym (append_assoc seen later (a ∷ behind))) bad
      (λ zs. ap (λ ws. p (mk ws f e)) (append_assoc seen later (a ∷ zs)) ∙ same (later ++ a ∷ zs) (inl (ap kind_ahead is ∙ like-append later (a ∷ behind) (a ∷ zs) refl)) ∙ reads zs)
      (λ b g. subst (λ ws. Continues C p f e ws) (sym (append_assoc seen later (b ∷ []))) (continues_prefix F C p q f e seen (later ++ b ∷ []) starts (λ zs h. same zs (inr h)) (good b g)))
      (continues_prefix F C p q f e seen later starts (λ zs h. same zs (inr h)) on)

  -- a sentence of what follows ends one of both
  continues_then : {A B : Type 0} (F C : List Located → Type 0) (p : Parser A) (g : A → Parser B) (f : Span) (e : SourcePosition) (ts : List Located) → ((x : A) → Starts F (g x) C)
      → ((x : A) → Sentence C (g x)) → Continues F p f e ts → Continues C (p >>= g) f e ts
  continues_then F C p g f e ts starts sentence c = let s = sentence c.tree f c.last in record {
    more = c.more ++ s.more;
    tree = s.tree;
    last = s.last;
    reads_on = λ zs h. let r = s.reads_on zs h in
        ap (λ ws. and_then (p (mk (ts ++ ws) f e)) g) (append_assoc c.more s.more zs) ∙ ap (λ o. and_then o g) (c.reads_on (s.more ++ zs) (starts c.tree (mk (s.more ++ zs) f c.last) (mk zs f s.last) s.tree r h)) ∙ r;
  }

  pub sentence_bind : {A B : Type 0} {F C : List Located → Type 0} {p : Parser A} {g : A → Parser B} → ((x : A) → Starts F (g x) C) → Sentence F p → ((x : A) → Sentence C (g x)) → Sentence C (p >>= g)
  sentence_bind {F = F} {C = C} {p = p} {g = g} starts first second f e = continues_then F C p g f e [] starts second (first f e)

  bind_stop : {A B : Type 0} (k m n : ℕ) (F C : List Located → Type 0) (Front : List Located → A → Type 0) (R : List Located → B → Type 0) (p : Parser A) (g : A → Parser B) (f : Span) (e : SourcePosition) (xs : List Located)
      → ((x : A) → Starts F (g x) C) → ((x : A) → Sentence C (g x)) → ((ts : List Located) (x : A) → Front ts x → Runs m C (λ us y. R (ts ++ us) y) (n - k) (g x))
      → length xs < n → Stop k F Front p f e xs → Stop (k + m) C R (p >>= g) f e xs
  bind_stop k m n F C Front R p g f e xs starts sentence next fewer (done seen rest x is many r reads) =
      subst (λ ws. Stop (k + m) C R (p >>= g) f e ws) (sym is)
      (stop_prefix m (k + m) F C R (λ us y. R (seen ++ us) y) (p >>= g) (g x) f e seen rest (starts x) (omega arith) (λ us y h. h) (λ zs h. ap (λ o. and_then o g) (reads zs h))
      ((next seen x r).stop rest f (end_of e seen) (let l = length-append seen rest in let same : length xs ≡ length (seen ++ rest) = ap length is in omega arith)))
  bind_stop k m n F C Front R p g f e xs starts sentence next fewer (refused seen rest is reads on) =
      refused seen rest is (λ zs l. ap (λ o. and_then o g) (reads zs l)) (continues_then F C p g f e seen starts sentence on)
  bind_stop k m n F C Front R p g f e xs starts sentence next fewer (unread seen rest a err is bad reads good on) =
      unread seen rest a err is bad (λ zs. ap (λ o. and_then o g) (reads zs)) (λ b h. continues_then F C p g f e (seen ++ b ∷ []) starts sentence (good b h)) (continues_then F C p g f e seen starts sentence on)

  pub runs_bind : {A B : Type 0} {k m n : ℕ} {F C : List Located → Type 0} {Front : List Located → A → Type 0} {R : List Located → B → Type 0} {p : Parser A} {g : A → Parser B}
      → ((x : A) → Starts F (g x) C) → ((x : A) → Sentence C (g x)) → Runs k F Front n p → ((ts : List Located) (x : A) → Front ts x → Runs m C (λ us y. R (ts ++ us) y) (n - k) (g x)) → Runs (k + m) C R n (p >>= g)
  runs_bind {k = k} {m = m} {n = n} {F = F} {C = C} {Front = Front} {R = R} {p = p} {g = g} starts sentence first next = record {
    stop = λ xs f e fewer. bind_stop k m n F C Front R p g f e xs starts sentence next fewer (first.stop xs f e fewer);
  }

  pub runs_pure : {A : Type 0} {C : List Located → Type 0} {R : List Located → A → Type 0} {n : ℕ} (x : A) → R [] x → Runs 0 C R n (pure x)
  runs_pure x r = record { stop = λ xs f e fewer. done [] xs x refl (omega arith) r (λ zs h. refl) }

  pub sentence_pure : {A : Type 0} {C : List Located → Type 0} (x : A) → Sentence C (pure x)
  sentence_pure x f e = record { more = []; tree = x; last = e; reads_on = λ zs h. refl }

  pub fewer_runs : {B : Type 0} {k m n : ℕ} {D : List Located → Type 0} {Q : List Located → B → Type 0} {p : Parser B} → m ≤ n → Runs k D Q n p → Runs k D Q m p
  fewer_runs below r = record { stop = λ xs f e fewer. r.stop xs f e (omega arith) }

  pub taking : {A : Type 0} {k m n : ℕ} {C : List Located → Type 0} {R Q : List Located → A → Type 0} {p : Parser A} → m ≤ k → ((ts : List Located) (x : A) → R ts x → Q ts x) → Runs k C R n p → Runs m C Q n p
  taking {k = k} {m = m} {C = C} {R = R} {Q = Q} {p = p} below map r = record {
    stop = λ xs f e fewer.
        stop_prefix k m Any C Q R p p f e [] xs (any_starts p C) (omega arith) map (λ zs h. refl) (r.stop xs f e fewer);
  }

got : {A : Type 0} → Input → Outcome A → Input
got d (Ok q) = q.1
got d (Err e) = d

-- what stands behind what was read
pub same_state : {A : Type 0} (x y : A) (i j : Input) → Path (Outcome A) (Ok (x, i)) (Ok (y, j)) → i ≡ j
unfolding got
same_state x y i j h = ap (got i) h

-- the same parser on every input
pub continues_same : {A : Type 0} {C : List Located → Type 0} {p q : Parser A} {f : Span} {e : SourcePosition} {ts : List Located} → ((i : Input) → q i ≡ p i) → Continues C p f e ts → Continues C q f e ts
continues_same {f = f} {e = e} {ts = ts} same c = record { more = c.more; tree = c.tree; last = c.last; reads_on = λ zs h. same (mk (ts ++ (c.more ++ zs)) f e) ∙ c.reads_on zs h }

-- less may follow
pub narrow_continues : {A : Type 0} {C D : List Located → Type 0} {p : Parser A} {f : Span} {e : SourcePosition} {ts : List Located} → ((xs : List Located) → D xs → C xs) → Continues C p f e ts → Continues D p f e ts
narrow_continues sub c = record { more = c.more; tree = c.tree; last = c.last; reads_on = λ zs h. c.reads_on zs (sub zs h) }

module _ (Bad : Located → Fault → Type 0) (Good : Located → Type 0) where
  narrow_stop : {A : Type 0} (k : ℕ) (C D : List Located → Type 0) (R : List Located → A → Type 0) (p : Parser A) (f : Span) (e : SourcePosition) (xs : List Located) → ((xs : List Located) → D xs → C xs) → Stop Bad Good k C R p f e xs → Stop Bad Good k D R p f e xs
  narrow_stop k C D R p f e xs sub (done seen rest x is many r on) = done seen rest x is many r (λ zs h. on zs (elim h [ inl l ↦ inl l | inr d ↦ inr (sub zs d) ]))
  narrow_stop k C D R p f e xs sub (refused seen rest is halts on) = refused seen rest is halts (narrow_continues sub on)
  narrow_stop k C D R p f e xs sub (unread seen rest a err is bad halts good on) = unread seen rest a err is bad halts (λ b g. narrow_continues sub (good b g)) (narrow_continues sub on)

  pub narrow_runs : {A : Type 0} {k n : ℕ} {C D : List Located → Type 0} {R : List Located → A → Type 0} {p : Parser A} → ((xs : List Located) → D xs → C xs) → Runs Bad Good k C R n p → Runs Bad Good k D R n p
  narrow_runs {k = k} {C = C} {D = D} {R = R} {p = p} sub r = record { stop = λ xs f e fewer. narrow_stop k C D R p f e xs sub (r.stop xs f e fewer) }

  stop_same : {A : Type 0} (k : ℕ) (C : List Located → Type 0) (R : List Located → A → Type 0) (p q : Parser A) (f : Span) (e : SourcePosition) (xs : List Located) → ((i : Input) → q i ≡ p i) → Stop Bad Good k C R p f e xs → Stop Bad Good k C R q f e xs
  stop_same k C R p q f e xs same (done seen rest x is many r reads) = done seen rest x is many r (λ zs h. same (mk (seen ++ zs) f e) ∙ reads zs h)
  stop_same k C R p q f e xs same (refused seen rest is reads on) = refused seen rest is (λ zs h. same (mk (seen ++ zs) f e) ∙ reads zs h) (continues_same same on)
  stop_same k C R p q f e xs same (unread seen rest a err is bad reads good on) =
      unread seen rest a err is bad (λ zs. same (mk (seen ++ a ∷ zs) f e) ∙ reads zs) (λ b g. continues_same same (good b g)) (continues_same same on)

  pub runs_same : {A : Type 0} {k n : ℕ} {C : List Located → Type 0} {R : List Located → A → Type 0} {p q : Parser A} → ((i : Input) → q i ≡ p i) → Runs Bad Good k C R n p → Runs Bad Good k C R n q
  runs_same {k = k} {C = C} {R = R} {p = p} {q = q} same r = record { stop = λ xs f e fewer. stop_same k C R p q f e xs same (r.stop xs f e fewer) }
