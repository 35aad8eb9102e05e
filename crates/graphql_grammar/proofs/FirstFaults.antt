-- A parser that meets its law reads what its grammar spells, and else faults at the first token that nothing could have there.
use Rattle.std.proofs.Common.{◌≡◌, ℕ, zero, suc, ◌<◌, ◌≤◌, ◌⊎◌, inl, inr, Bool, false, List, [], ◌∷◌, ◌++◌, length, length-append, Result, Ok, Err, ap, ◌∙◌, sym, refl, subst, append_assoc, arith}
use Rattle.std.proofs.lemmas.List.{append-nil}
use Rattle.graphql_text.specs.declared.position.Span.{Span}
use Rattle.graphql_text.specs.declared.position.SourcePosition.{SourcePosition}
use Rattle.graphql_text.specs.Position.{origin}
use Rattle.graphql_text.specs.declared.parse_error.ParseError.{ParseError}
use Rattle.graphql_text.specs.declared.token.Token.TheVariants as t
use Rattle.graphql_text.specs.declared.token.ScalarToken.{ScalarToken}
use Rattle.graphql_grammar.specs.declared.kind.Kind.TheVariants as k
use Rattle.graphql_grammar.specs.Kinds.{Kinds, kind}
use Rattle.graphql_grammar.specs.Input.{Input, Located, Fault, Parser, Outcome, left, first, peek, unexpected, refusal}
use Rattle.graphql_grammar.specs.Ahead.{mk, Free, Like, kind_ahead, refused_at}
use Rattle.graphql_grammar.specs.Relations.{end_of}
use Rattle.graphql_grammar.specs.Faults.{Reading, TakesScalar, IsScalarToken, BadScalar, GoodScalar, Begins, FaultOf, unexpected_token, refused_scalar, FirstFaultyToken, Spelled, OnlyTree, Longest, Sought, SoughtAlone}
use Rattle.graphql_grammar.specs.Leaves.{LeftAt}
use Rattle.graphql_grammar.proofs.Stops.{Stop, done, refused, unread, Continues}
use Rattle.graphql_grammar.proofs.Law.{Law, least}
use Rattle.graphql_grammar.proofs.Fronts.{Fronts, fronts, begins_before}
use Rattle.graphql_grammar.proofs.Readings.{OneRefuses, the_first, the_second, Twin, both_read, both_refused, parted, Twins}
use Rattle.graphql_grammar.proofs.Marks.{told, is_told, told_is, unexpected_is, same_told, marked, marked_refuses, marked_refused, opened, other, opened_self, opened_other, opened_refused}

both_scalars : (a b : Located) (xs ys : List Located) → IsScalarToken a → IsScalarToken b → Like (a ∷ xs) (b ∷ ys)
both_scalars a b xs ys s u = ap kind s.is ∙ sym (ap kind u.is)

got : {A : Type 0} → A × Input → Outcome A → A × Input
got d (Ok q) = q
got d (Err e) = d

-- what is read twice is the same
pub same_pair : {A : Type 0} (p q : A × Input) → Path (Outcome A) (Ok p) (Ok q) → p ≡ q
unfolding got
same_pair p q h = ap (got p) h

not_more : (m n : ℕ) → (n < m → ⊥) → m ≤ n
not_more zero n h = omega arith
not_more (suc m) zero h = absurd (h (omega arith))
not_more (suc m) (suc n) h = let r = not_more m n (λ g. h (omega arith)) in omega arith

-- of two fronts of a list the longer goes on from the shorter
longer : (a b c d : List Located) → a ++ b ≡ c ++ d → length a < length c → (x : Located) × (more : List Located) × (c ≡ a ++ x ∷ more) × (b ≡ x ∷ (more ++ d))
longer [] b [] d is fewer = absurd (omega arith)
longer [] b (y ∷ c) d is fewer = (y, c, refl, is)
longer (x ∷ a) b [] d is fewer = absurd (omega arith)
longer (x ∷ a) b (y ∷ c) d is fewer = let h : x ≡ y = cc in let t : a ++ b ≡ c ++ d = cc in let u = longer a b c d t (omega arith) in (u.0, u.1, cc, u.3)

same_fronts : (a b c d : List Located) → a ++ b ≡ c ++ d → length a ≡ length c → a ≡ c
same_fronts [] b [] d is same = refl
same_fronts [] b (y ∷ c) d is same = absurd (omega arith)
same_fronts (x ∷ a) b [] d is same = absurd (omega arith)
same_fronts (x ∷ a) b (y ∷ c) d is same = let h : x ≡ y = cc in let t : a ++ b ≡ c ++ d = cc in let u = same_fronts a b c d t (omega arith) in cc

module _ {S A : Type 0} (reads : ScalarToken → Result S ParseError) {solid : Bool} {starts stops : Kinds} (Tree : List Located → A → Type 0) (p : Parser A)
    (law : (n : ℕ) → Law (BadScalar reads) (GoodScalar reads) solid starts stops Tree n p) (free : stops k.EndOfFile ≡ false) where
  complete : (ts : List Located) (x : A) → Tree ts x → (zs : List Located) → Free stops zs → (f : Span) (e : SourcePosition) → p (mk (ts ++ zs) f e) ≡ Ok (x, mk zs f (end_of e ts))
  complete ts x r zs c f e = (law (suc (length ts))).reads ts x r (omega arith) zs c f e

  spelled_by : (f : Span) (e : SourcePosition) (xs : List Located) (x : A) (j : Input) → Stop (BadScalar reads) (GoodScalar reads) (least solid) (Free stops) Tree p f e xs → p (mk xs f e) ≡ Ok (x, j) → Spelled reads Tree (mk xs f e) x j
  spelled_by f e xs x j (done seen rest y is many r on) h =
      let same : Path (Outcome A) (Ok (x, j)) (Ok (y, mk rest f (end_of e seen))) = sym h ∙ ap (λ ws. p (mk ws f e)) is ∙ on rest (inl refl) in
      let both = same_pair (x, j) (y, mk rest f (end_of e seen)) same in let tree : x ≡ y = ap (λ q. q.0) both in let state : j ≡ mk rest f (end_of e seen) = ap (λ q. q.1) both in let behind : j.ahead ≡ rest = ap (λ (i : Input). i.ahead) state in
      record {
        tokens = seen;
        front = is ∙ ap (λ ws. seen ++ ws) (sym behind);
        spells = subst (λ z. Tree seen z) (sym tree) r;
        after = state ∙ ap (λ ws. mk ws f (end_of e seen)) (sym behind);
      }
  spelled_by f e xs x j (refused seen rest is halts on) h = absurd (let q = sym h ∙ ap (λ ws. p (mk ws f e)) is ∙ halts rest refl in cc)
  spelled_by f e xs x j (unread seen rest a err is bad halts good on) h = absurd (let q = sym h ∙ ap (λ ws. p (mk ws f e)) is ∙ halts rest in cc)

  -- what is read is spelled
  pub spelled : (i : Input) (x : A) (j : Input) → p i ≡ Ok (x, j) → Spelled reads Tree i x j
  spelled i x j h = spelled_by i.finish i.end i.ahead x j ((law (suc (length i.ahead))).runs.stop i.ahead i.finish i.end (omega arith)) h

  -- what leads on begins a tree
  begins : (f : Span) (e : SourcePosition) (ts : List Located) → Continues (Free stops) p f e ts → Begins reads Tree ts
  begins f e ts c = let r = spelled (mk (ts ++ (c.more ++ [])) f e) c.tree (mk [] f c.last) (c.reads_on [] free) in
      record { more = c.more ++ []; tree = c.tree; spells = subst (λ ws. Tree ws c.tree) (sym (r.front ∙ append-nil r.tokens)) r.spells }

  -- a tree that begins with these tokens is read from them
  begun : (f : Span) (e : SourcePosition) (ts : List Located) (a : Located) (b : Begins reads Tree (ts ++ a ∷ [])) → (x : A) × (j : Input) × (p (mk (ts ++ a ∷ b.more) f e) ≡ Ok (x, j))
  begun f e ts a b = (b.tree, mk [] f (end_of e ((ts ++ a ∷ []) ++ b.more)), ap (λ ws. p (mk ws f e)) (sym (append-nil (ts ++ a ∷ b.more)) ∙ ap (λ ws. ws ++ []) (sym (append_assoc ts (a ∷ []) b.more))) ∙ complete _ b.tree b.spells [] free f e)

  -- tokens spell one tree at most
  pub one_tree : (ts : List Located) (x y : A) → Tree ts x → Tree ts y → x ≡ y
  one_tree ts x y r s = let f : Span = record { start = origin; end = origin } in
      ap (λ q. q.0) (same_pair (x, mk [] f (end_of f.start ts)) (y, mk [] f (end_of f.start ts)) (sym (complete ts x r [] free f f.start) ∙ complete ts y s [] free f f.start))

  -- whatever follows, no other tree is spelled there
  pub only_tree : ((zs : List Located) → Free stops zs) → (i : Input) (x : A) (j : Input) → p i ≡ Ok (x, j) → OnlyTree reads Tree i x
  only_tree always i x j h = record {
    same = λ y l r.
        let q : Path (Outcome A) (Ok (x, j)) (Ok (y, mk l.ahead i.finish (end_of i.end r.tokens))) = sym h ∙ ap (λ ws. p (mk ws i.finish i.end)) r.front ∙ complete r.tokens y r.spells l.ahead (always l.ahead) i.finish i.end in
        sym (ap (λ z. z.0) (same_pair (x, j) (y, mk l.ahead i.finish (end_of i.end r.tokens)) q));
  }

  longest_by : (f : Span) (e : SourcePosition) (xs : List Located) (x : A) (j : Input) → Stop (BadScalar reads) (GoodScalar reads) (least solid) (Free stops) Tree p f e xs → p (mk xs f e) ≡ Ok (x, j)
      → (seen rest : List Located) × (xs ≡ seen ++ rest) × (j ≡ mk rest f (end_of e seen)) × ((zs : List Located) → (Like rest zs) ⊎ (Free stops zs) → p (mk (seen ++ zs) f e) ≡ Ok (x, mk zs f (end_of e seen)))
  longest_by f e xs x j (done seen rest y is many r on) h =
      let same : Path (Outcome A) (Ok (x, j)) (Ok (y, mk rest f (end_of e seen))) = sym h ∙ ap (λ ws. p (mk ws f e)) is ∙ on rest (inl refl) in
      let both = same_pair (x, j) (y, mk rest f (end_of e seen)) same in
      (seen, rest, is, ap (λ q. q.1) both, λ zs l. on zs l ∙ ap (λ z. Ok (z, mk zs f (end_of e seen))) (sym (ap (λ q. q.0) both)))
  longest_by f e xs x j (refused seen rest is halts on) h = absurd (let q = sym h ∙ ap (λ ws. p (mk ws f e)) is ∙ halts rest refl in cc)
  longest_by f e xs x j (unread seen rest a err is bad halts good on) h = absurd (let q = sym h ∙ ap (λ ws. p (mk ws f e)) is ∙ halts rest in cc)

  no_longer : (i : Input) (x y : A) (seen rest ts behind : List Located) → seen ++ rest ≡ ts ++ behind → ((zs : List Located) → (Like rest zs) ⊎ (Free stops zs) → p (mk (seen ++ zs) i.finish i.end) ≡ Ok (x, mk zs i.finish (end_of i.end seen)))
      → Tree ts y → length seen < length ts → ⊥
  no_longer i x y seen rest ts behind is on r more =
      let u = longer seen rest ts behind is more in
      let short = on (u.0 ∷ u.1) (inl (ap kind_ahead u.3)) in
      let long = complete ts y r [] free i.finish i.end in
      let both : Path (Outcome A) (Ok (x, mk (u.0 ∷ u.1) i.finish (end_of i.end seen))) (Ok (y, mk [] i.finish (end_of i.end ts))) = sym short ∙ ap (λ ws. p (mk ws i.finish i.end)) (sym u.2 ∙ sym (append-nil ts)) ∙ long in
      let state = ap (λ q. q.1) (same_pair (x, mk (u.0 ∷ u.1) i.finish (end_of i.end seen)) (y, mk [] i.finish (end_of i.end ts)) both) in
      let sizes : suc (length u.1) ≡ 0 = ap (λ (s : Input). length s.ahead) state in omega arith

  -- of the fronts that are spelled the longest is read
  pub longest : (i : Input) (x : A) (j : Input) → p i ≡ Ok (x, j) → Longest reads Tree i x j
  longest i x j h =
      let l = longest_by i.finish i.end i.ahead x j ((law (suc (length i.ahead))).runs.stop i.ahead i.finish i.end (omega arith)) h in
      let behind : left j ≡ length l.1 = ap left l.3 in let whole : length i.ahead ≡ length (l.0 ++ l.1) = ap length l.2 in let sum = length-append l.0 l.1 in
      record {
        most = λ y q s. let w : length i.ahead ≡ length (s.tokens ++ q.ahead) = ap length s.front in let a = length-append s.tokens q.ahead in
            not_more (left j) (left q) (λ fewer. no_longer i x y l.0 l.1 s.tokens q.ahead (sym l.2 ∙ s.front) l.4 s.spells (omega arith));
        same = λ y q s equal. let w : length i.ahead ≡ length (s.tokens ++ q.ahead) = ap length s.front in let a = length-append s.tokens q.ahead in
            let tokens : s.tokens ≡ l.0 = sym (same_fronts l.0 l.1 s.tokens q.ahead (sym l.2 ∙ s.front) (omega arith)) in
            let one = complete s.tokens y s.spells [] free i.finish i.end in let two = l.4 [] (inr free) in
            ap (λ z. z.0) (same_pair (y, mk [] i.finish (end_of i.end l.0)) (x, mk [] i.finish (end_of i.end l.0)) (sym (subst (λ us. p (mk (us ++ []) i.finish i.end) ≡ Ok (y, mk [] i.finish (end_of i.end us))) tokens one) ∙ two));
      }

-- ---- by all readings

refused_apart : {A : Type 0} (o : Outcome A) (q : A × Input) (e : Fault) → o ≡ Ok q → o ≡ Err e → ⊥
refused_apart o q e read halts = let z = sym read ∙ halts in cc

same_refusal : {A : Type 0} (o : Outcome A) (e f : Fault) → o ≡ Err e → o ≡ Err f → e ≡ f
same_refusal o e f a b = let z = sym a ∙ b in cc

-- a refusal of a token is none of a reading's
told_apart : {A : Type 0} (o : Outcome A) (x : ScalarToken) (s : Span) (token : Located) → o ≡ Err (record { item = told x; span = s }) → o ≡ Err (record { item = unexpected token.item; span = token.span }) → ⊥
told_apart o x s token a b =
    let same = ap (λ (z : Fault). is_told z.item) (same_refusal o _ _ a b) in
    let q = sym (told_is x) ∙ same ∙ unexpected_is token.item in cc

refusal_apart : {A : Type 0} (o : Outcome A) (x : ScalarToken) (s : Span) (j : Input) → o ≡ Err (record { item = told x; span = s }) → o ≡ Err (refusal j) → ⊥
unfolding refusal
refusal_apart o x s j a b = told_apart o x s (peek j) a b

module _ {S A : Type 0} (Tree : Reading S → List Located → A → Type 0) (p : Reading S → Parser A) {solid : Bool} {starts stops : Kinds}
    (law : (r : Reading S) (n : ℕ) → Law (BadScalar r) (GoodScalar r) solid starts stops (Tree r) n (p r)) (free : stops k.EndOfFile ≡ false) (twins : (q r : Reading S) → Twins q r (p q) (p r)) (some : S) where
  -- what the second refuses the first refuses
  abbrev Takes : Reading S → Reading S → Type 0
  Takes q r = (x : ScalarToken) (e : ParseError) → r x ≡ Err e → (f : ParseError) × (q x ≡ Err f)

  -- ---- what one reading takes, one that takes more takes

  reads_too : (q r : Reading S) → Takes q r → (i : Input) (x : A) (j : Input) → p q i ≡ Ok (x, j) → (y : A) × (p r i ≡ Ok (y, j))
  reads_too q r takes i x j h = on ((twins q r).at i)
    where
      on : Twin q r (p q i) (p r i) → (y : A) × (p r i ≡ Ok (y, j))
      on (both_read u y m a b) = (y, b ∙ ap (λ z. Ok (y, z)) (ap (λ z. z.1) (same_pair (u, m) (x, j) (sym a ∙ h))))
      on (both_refused m a b) = absurd (refused_apart (p q i) (x, j) _ h a)
      on (parted t s (the_first e is) a b) = absurd (refused_apart (p q i) (x, j) _ h (a e is))
      on (parted t s (the_second e is) a b) = let f = takes t e is in absurd (refused_apart (p q i) (x, j) _ h (a f.0 f.1))

  trees_too : (q r : Reading S) → Takes q r → (ts : List Located) (x : A) → Tree q ts x → (y : A) × Tree r ts y
  trees_too q r takes ts x d =
      let f : Span = record { start = origin; end = origin } in
      let u = reads_too q r takes (mk (ts ++ []) f origin) x (mk [] f (end_of origin ts)) (complete q (Tree q) (p q) (law q) free ts x d [] free f origin) in
      let w = spelled r (Tree r) (p r) (law r) free (mk (ts ++ []) f origin) u.0 (mk [] f (end_of origin ts)) u.1 in
      let same : w.tokens ≡ ts = sym (append-nil w.tokens) ∙ sym w.front ∙ append-nil ts in
      (u.0, subst (λ us. Tree r us u.0) same w.spells)

  begins_too : (q r : Reading S) → Takes q r → (ts : List Located) → Begins q (Tree q) ts → Begins r (Tree r) ts
  begins_too q r takes ts b = let u = trees_too q r takes (ts ++ b.more) b.tree b.spells in record { more = b.more; tree = u.0; spells = u.1 }

  -- ---- the words of a refusal

  module _ (r : Reading S) where
    marked_takes : Takes r (marked r)
    marked_takes x e is = (marked_refused r x e is).1

    takes_marked : Takes (marked r) r
    takes_marked x e is = (told x, marked_refuses r x e is)

    -- both refuse it
    both_refuse : (x : ScalarToken) → OneRefuses (marked r) r x → (e : ParseError) × (r x ≡ Err e)
    both_refuse x (the_first e is) = (marked_refused r x e is).1
    both_refuse x (the_second e is) = (e, is)

    -- of a token
    of_token : (i : Input) (err : Fault) (token : Located) → p r i ≡ Err err → p (marked r) i ≡ Err (record { item = unexpected token.item; span = token.span }) → err ≡ record { item = unexpected token.item; span = token.span }
    of_token i err token h m = on ((twins (marked r) r).at i)
      where
        on : Twin (marked r) r (p (marked r) i) (p r i) → err ≡ record { item = unexpected token.item; span = token.span }
        on (both_read u y j a b) = absurd (refused_apart (p r i) (y, j) err b h)
        on (both_refused j a b) = same_refusal (p r i) err (refusal j) h b ∙ same_refusal (p (marked r) i) (refusal j) _ a m
        on (parted x s one a b) = let e = both_refuse x one in absurd (told_apart (p (marked r) i) x s token (a (told x) (marked_refuses r x e.0 e.1)) m)

    -- of a scalar, in the reading's own
    of_scalar : (i : Input) (err : Fault) (x : ScalarToken) (s : Span) → p r i ≡ Err err → p (marked r) i ≡ Err (record { item = told x; span = s }) → (e : ParseError) × (r x ≡ Err e) × (err ≡ record { item = e; span = s })
    of_scalar i err x s h m = on ((twins (marked r) r).at i)
      where
        on : Twin (marked r) r (p (marked r) i) (p r i) → (e : ParseError) × (r x ≡ Err e) × (err ≡ record { item = e; span = s })
        on (both_read u y j a b) = absurd (refused_apart (p r i) (y, j) err b h)
        on (both_refused j a b) = absurd (refusal_apart (p (marked r) i) x s j m a)
        on (parted y u one a b) =
            let e = both_refuse y one in
            let same = same_refusal (p (marked r) i) _ _ (a (told y) (marked_refuses r y e.0 e.1)) m in
            let scalar = same_told y x (ap (λ (z : Fault). z.item) same) in
            (e.0, ap r (sym scalar) ∙ e.1, same_refusal (p r i) _ _ h (b e.0 e.1) ∙ ap (λ (z : Fault). record { item = e.0; span = z.span }) same)

    -- ---- whether a scalar can stand there

    -- where no scalar is read, none can
    takes_none : (f : Span) (e : SourcePosition) (seen rest : List Located) → ((zs : List Located) → Like rest zs → p (marked r) (mk (seen ++ zs) f e) ≡ Err (refused_at f zs))
        → (a : Located) (more : List Located) → rest ≡ a ∷ more → IsScalarToken a → TakesScalar Tree seen → ⊥
    takes_none f e seen rest halts a more at is takes =
        let g = takes.reading in
        let u = begun g (Tree g) (p g) (law g) free f e seen takes.at takes.begins in
        let i = mk (seen ++ takes.at ∷ takes.begins.more) f e in
        let h = halts (takes.at ∷ takes.begins.more) (ap kind_ahead at ∙ both_scalars a takes.at more takes.begins.more is takes.scalar) in
        on i (u.0, u.1) u.2 h ((twins (marked r) g).at i)
      where
        on : (i : Input) (q : A × Input) → p takes.reading i ≡ Ok q → p (marked r) i ≡ Err (record { item = unexpected takes.at.item; span = takes.at.span }) → Twin (marked r) takes.reading (p (marked r) i) (p takes.reading i) → ⊥
        on i q read halted (both_read u y j a b) = refused_apart (p (marked r) i) (u, j) _ a halted
        on i q read halted (both_refused j a b) = refused_apart (p takes.reading i) q _ read b
        on i q read halted (parted x s (the_first d is) a b) = told_apart (p (marked r) i) x s takes.at (a (told x) (is ∙ ap Err (marked_refused r x d is).0)) halted
        on i q read halted (parted x s (the_second d is) a b) = refused_apart (p takes.reading i) q _ read (b d is)

    -- where one is refused, one can
    module _ (f : Span) (e : SourcePosition) (seen rest : List Located) (a : Located) (token : ScalarToken) (is : a.item ≡ t.Scalar token) (bad : marked r token ≡ Err (told token)) (begun_there : Begins (marked r) (Tree (marked r)) seen) where
      abbrev wider : Reading S
      wider = opened some token (marked r)

      takes_wider : Takes (marked r) wider
      takes_wider x e is = (e, opened_refused some token (marked r) x e is)

      wider_refuses : (i : Input) → p (marked r) i ≡ Err (record { item = told token; span = a.span }) → p wider i ≡ Err (record { item = told token; span = a.span })
      wider_refuses i h = on ((twins (marked r) wider).at i)
        where
          here : (x : ScalarToken) (s : Span) → p (marked r) i ≡ Err (record { item = told x; span = s }) → ((d : ParseError) → wider x ≡ Err d → p wider i ≡ Err (record { item = d; span = s })) → p wider i ≡ Err (record { item = told token; span = a.span })
          here x s m b =
              let same = same_refusal (p (marked r) i) _ _ m h in
              let scalar = same_told x token (ap (λ (z : Fault). z.item) same) in
              b (told token) (ap wider scalar ∙ opened_self some token (marked r) ∙ bad) ∙ ap (λ (z : Fault). Err (record { item = told token; span = z.span })) same

          on : Twin (marked r) wider (p (marked r) i) (p wider i) → p wider i ≡ Err (record { item = told token; span = a.span })
          on (both_read u y j c b) = absurd (refused_apart (p (marked r) i) (u, j) _ c h)
          on (both_refused j c b) = absurd (refusal_apart (p (marked r) i) token a.span j h c)
          on (parted x s (the_first d at) c b) = here x s (c (told x) (at ∙ ap Err (marked_refused r x d at).0)) b
          on (parted x s (the_second d at) c b) = let m = opened_refused some token (marked r) x d at in here x s (c (told x) (m ∙ ap Err (marked_refused r x d m).0)) b

      -- a scalar of the other sort
      abbrev another : Located
      another = record { item = t.Scalar (other token); span = f }

      takes_there : (b : Located) → IsScalarToken b → Begins wider (Tree wider) (seen ++ b ∷ []) → TakesScalar Tree seen
      takes_there b scalar begins = record { reading = wider; at = b; scalar = scalar; begins = begins }

      takes_by : Stop (BadScalar wider) (GoodScalar wider) (least solid) (Free stops) (Tree wider) (p wider) f e (seen ++ a ∷ rest) → p wider (mk (seen ++ a ∷ rest) f e) ≡ Err (record { item = told token; span = a.span }) → TakesScalar Tree seen
      takes_by (done front behind y same many d on) h = absurd (refused_apart (p wider (mk (seen ++ a ∷ rest) f e)) _ _ (ap (λ ws. p wider (mk ws f e)) same ∙ on behind (inl refl)) h)
      takes_by (refused front behind same halts on) h = absurd (told_apart (p wider (mk (seen ++ a ∷ rest) f e)) token a.span (first f behind) h (ap (λ ws. p wider (mk ws f e)) same ∙ halts behind refl))
      takes_by (unread front behind b err same worse halts good on) h = at_fronts (fronts seen (a ∷ rest) front (b ∷ behind) same)
        where
          at_fronts : Fronts seen (a ∷ rest) front (b ∷ behind) → TakesScalar Tree seen
          at_fronts (inl s) =
              let scalar : GoodScalar wider another = record { token = other token; scalar = some; is = refl; reads_it = opened_other some token (marked r) } in
              let there = begins wider (Tree wider) (p wider) (law wider) free f e (front ++ another ∷ []) (good another scalar) in
              takes_there another (record { token = other token; is = refl }) (subst (λ us. Begins wider (Tree wider) (us ++ another ∷ [])) (sym s.0) there)
          at_fronts (inr (inl g)) =
              let next : a ≡ g.next = (let z = g.rest_is in cc) in
              takes_there g.next (record { token = token; is = ap (λ (z : Located). z.item) (sym next) ∙ is })
              (begins_before wider (Tree wider) seen (a ∷ rest) front g (begins wider (Tree wider) (p wider) (law wider) free f e front on))
          at_fronts (inr (inr g)) =
              let next : b ≡ g.next = (let z = g.rest_is in cc) in
              let there = begins_before wider (Tree wider) front (b ∷ behind) seen g (begins_too (marked r) wider takes_wider seen begun_there) in
              let u = begun wider (Tree wider) (p wider) (law wider) free f e front g.next there in
              absurd (refused_apart (p wider (mk (front ++ g.next ∷ there.more) f e)) (u.0, u.1) err u.2 (ap (λ (z : Located). p wider (mk (front ++ z ∷ there.more) f e)) (sym next) ∙ halts there.more))

      takes_one : p (marked r) (mk (seen ++ a ∷ rest) f e) ≡ Err (record { item = told token; span = a.span }) → TakesScalar Tree seen
      takes_one h = takes_by ((law wider (suc (length (seen ++ a ∷ rest)))).runs.stop (seen ++ a ∷ rest) f e (omega arith)) (wider_refuses (mk (seen ++ a ∷ rest) f e) h)

    -- ---- the first faulty token

    fault_by : (f : Span) (e : SourcePosition) (xs : List Located) (err : Fault) → Stop (BadScalar (marked r)) (GoodScalar (marked r)) (least solid) (Free stops) (Tree (marked r)) (p (marked r)) f e xs → p r (mk xs f e) ≡ Err err
        → FirstFaultyToken r Tree (mk xs f e) err
    fault_by f e xs err (done seen rest y is many d on) h =
        let u = reads_too (marked r) r takes_marked (mk xs f e) y _ (ap (λ ws. p (marked r) (mk ws f e)) is ∙ on rest (inl refl)) in
        absurd (refused_apart (p r (mk xs f e)) _ err u.1 h)
    fault_by f e xs err (refused seen rest is halts on) h = record {
      before = seen;
      rest = rest;
      front = is;
      possible = begins_too (marked r) r takes_marked seen (begins (marked r) (Tree (marked r)) (p (marked r)) (law (marked r)) free f e seen on);
      impossible = λ a more at b.
          let there = begins_too r (marked r) marked_takes (seen ++ a ∷ []) b in
          let u = begun (marked r) (Tree (marked r)) (p (marked r)) (law (marked r)) free f e seen a there in
          let q = sym (halts (a ∷ there.more) (ap kind_ahead at)) ∙ u.2 in cc;
      too_short = λ ends x d.
          let y = trees_too r (marked r) marked_takes seen x d in
          let q = sym (halts [] (ap kind_ahead ends)) ∙ complete (marked r) (Tree (marked r)) (p (marked r)) (law (marked r)) free seen y.0 y.1 [] free f e in cc;
      fault = unexpected_token (of_token (mk xs f e) err (first f rest) h (ap (λ ws. p (marked r) (mk ws f e)) is ∙ halts rest refl)) (takes_none f e seen rest halts);
    }
    fault_by f e xs err (unread seen rest a bad_fault is bad halts good on) h =
        let error = (marked_refused r bad.token bad.error bad.reads_not).0 in
        let refuses : marked r bad.token ≡ Err (told bad.token) = bad.reads_not ∙ ap Err error in
        let words : p (marked r) (mk (seen ++ a ∷ rest) f e) ≡ Err (record { item = told bad.token; span = a.span }) = halts rest ∙ ap Err (bad.fault ∙ ap (λ z. record { item = z; span = a.span }) error) in
        let own = of_scalar (mk xs f e) err bad.token a.span h (ap (λ ws. p (marked r) (mk ws f e)) is ∙ words) in
        let begun_there = begins (marked r) (Tree (marked r)) (p (marked r)) (law (marked r)) free f e seen on in
        record {
          before = seen;
          rest = a ∷ rest;
          front = is;
          possible = begins_too (marked r) r takes_marked seen begun_there;
          impossible = λ c more at b.
              let there = begins_too r (marked r) marked_takes (seen ++ c ∷ []) b in
              let u = begun (marked r) (Tree (marked r)) (p (marked r)) (law (marked r)) free f e seen c there in
              let ac : a ≡ c = cc in let q = sym (halts there.more) ∙ ap (λ z. p (marked r) (mk (seen ++ z ∷ there.more) f e)) ac ∙ u.2 in cc;
          too_short = λ ends x d. absurd (cc);
          fault = refused_scalar a rest refl (record { token = bad.token; error = own.0; is = bad.is; reads_not = own.1; fault = own.2 }) (takes_one f e seen rest a bad.token bad.is refuses begun_there words);
        }

    -- where nothing is read, the first faulty token
    pub first_fault : (i : Input) (err : Fault) → p r i ≡ Err err → FirstFaultyToken r Tree i err
    first_fault i err h = fault_by i.finish i.end i.ahead err ((law (marked r) (suc (length i.ahead))).runs.stop i.ahead i.finish i.end (omega arith)) h

    pub sought : (i : Input) (o : Outcome A) → p r i ≡ o → Sought r Tree i o
    sought i (Ok q) h = (spelled r (Tree r) (p r) (law r) free i q.0 q.1 h, longest r (Tree r) (p r) (law r) free i q.0 q.1 h)
    sought i (Err e) h = first_fault i e h

    pub found : ((zs : List Located) → Free stops zs) → (i : Input) (o : Outcome A) → p r i ≡ o → SoughtAlone r Tree i o
    found always i (Ok q) h = (spelled r (Tree r) (p r) (law r) free i q.0 q.1 h, only_tree r (Tree r) (p r) (law r) free always i q.0 q.1 h)
    found always i (Err e) h = first_fault i e h

-- ---- what a fault is about

module _ {S A : Type 0} (reads : Reading S) (Tree : Reading S → List Located → A → Type 0) where
  pub fault_span : (f : Span) (before rest : List Located) (e : Fault) → FaultOf reads Tree f before rest e → e.span ≡ (first f rest).span
  fault_span f before rest e (unexpected_token is none) = ap (λ (z : Fault). z.span) is
  fault_span f before rest e (refused_scalar a more at bad takes) = ap (λ (z : Fault). z.span) bad.fault ∙ sym (ap (λ z. (first f z).span) at)

  -- what is left from the faulty token on
  pub fault_left : (i : Input) (e : Fault) → FirstFaultyToken reads Tree i e → (j : Input) × LeftAt i e j
  unfolding peek
  fault_left i e at = (mk at.rest i.finish (end_of i.end at.before), (record { tokens = at.before; front = at.front; after = refl }, sym (fault_span i.finish at.before at.rest e at.fault)))
