-- The law of a production: it reads what its relation spells, stops as `Stop` says, has a sentence, and begins with one of its first kinds.
use Rattle.std.proofs.Common.{◌≡◌, ℕ, ◌+◌, ◌-◌, ◌<◌, ◌≤◌, ◌⊎◌, inl, inr, Bool, true, false, ◌||◌, List, ◌++◌, length, length-append, Ok, ap, ◌∙◌, sym, refl, subst, append_assoc, arith, le_refl}
use Rattle.std.proofs.lemmas.List.{append-nil}
use Rattle.graphql_text.specs.declared.position.Span.{Span}
use Rattle.graphql_text.specs.declared.position.SourcePosition.{SourcePosition}
use Rattle.graphql_grammar.specs.Kinds.{Kinds, either, no_kind, apart, are_among}
use Rattle.graphql_grammar.specs.Input.{Input, Located, Fault, Parser, and_then, ◌>>=◌, pure}
use Rattle.graphql_grammar.specs.Ahead.{mk, In, Free, kind_ahead}
use Rattle.graphql_grammar.specs.Relations.{end_of, Nothing, Then, Made}
use Rattle.graphql_grammar.proofs.Sets.{or_left, or_right, in_left, in_right, apart_is, within_is}
use Rattle.graphql_grammar.proofs.Stops.{Runs, Sentence, Starts, ran_before, end-append, runs_bind, sentence_bind, runs_pure, sentence_pure, fewer_runs, taking, narrow_runs, narrow_continues, same_state, runs_same, continues_same}

-- how many tokens it takes at least
abbrev pub least : Bool → ℕ
least true = 1
least false = 0

-- it begins with one of these kinds, or reads nothing, where it may
abbrev pub Begun : Bool → Kinds → Input → Input → Type 0
Begun true starts i j = In starts i.ahead
Begun false starts i j = (In starts i.ahead) ⊎ (j ≡ i)

-- it reads this tree from these tokens
abbrev pub ReadsAs : {A : Type 0} → Parser A → List Located → A → List Located → Type 0
ReadsAs p ts x zs = (f : Span) (e : SourcePosition) → p (mk (ts ++ zs) f e) ≡ Ok (x, mk zs f (end_of e ts))

-- what the first part, if it may be empty, and the second begin with
abbrev pub starts_of : Bool → Kinds → Kinds → Kinds
starts_of true one two = one
starts_of false one two = either one two

-- what can't follow the second part, and if that may be empty the first
abbrev pub stops_of : Bool → Kinds → Kinds → Kinds
stops_of true one two = two
stops_of false one two = either two one

least_both : (a b : Bool) → least (a || b) ≤ least a + least b
least_both true b = omega arith
least_both false b = omega arith

least_of : (a b : Bool) (m n : ℕ) → least a ≤ m → least b ≤ n → least (a || b) ≤ m + n
least_of true b m n h u = omega arith
least_of false b m n h u = omega arith

-- ---- what begins with a kind that may follow

pub free_by : (starts stops : Kinds) (xs : List Located) → apart starts stops ≡ true → In starts xs → Free stops xs
free_by starts stops xs h is = apart_is starts stops h (kind_ahead xs) is

free_second : (b : Bool) (one two : Kinds) (xs : List Located) → Free (stops_of b one two) xs → Free two xs
free_second true one two xs h = h
free_second false one two xs h = or_left (two (kind_ahead xs)) (one (kind_ahead xs)) h

pub follows : (b : Bool) (starts one two : Kinds) (i j : Input) → apart starts one ≡ true → Begun b starts i j → Free (stops_of b one two) j.ahead → Free one i.ahead
follows true starts one two i j h begun c = free_by starts one i.ahead h begun
follows false starts one two i j h (inl begun) c = free_by starts one i.ahead h begun
follows false starts one two i j h (inr same) c = subst (λ (s : Input). Free one s.ahead) same (or_right (two (kind_ahead j.ahead)) (one (kind_ahead j.ahead)) c)

pub begun_second : (b : Bool) (one two : Kinds) (i j : Input) → Begun b two i j → Begun b (either one two) i j
begun_second true one two i j h = in_right (one (kind_ahead i.ahead)) (two (kind_ahead i.ahead)) h
begun_second false one two i j (inl h) = inl (in_right (one (kind_ahead i.ahead)) (two (kind_ahead i.ahead)) h)
begun_second false one two i j (inr h) = inr h

pub begun_first : (b : Bool) (one two : Kinds) (i j : Input) → In one i.ahead → Begun b (either one two) i j
begun_first true one two i j h = in_left (one (kind_ahead i.ahead)) (two (kind_ahead i.ahead)) h
begun_first false one two i j h = inl (in_left (one (kind_ahead i.ahead)) (two (kind_ahead i.ahead)) h)

begun_both : (a b : Bool) (one two : Kinds) (i m j : Input) → Begun a one i m → Begun b two m j → Begun (a || b) (starts_of a one two) i j
begun_both true b one two i m j h u = h
begun_both false b one two i m j (inl h) u = begun_first b one two i j h
begun_both false b one two i m j (inr same) u = begun_second b one two i j (subst (λ (s : Input). Begun b two s j) same u)

-- ---- the law

module _ (Bad : Located → Fault → Type 0) (Good : Located → Type 0) where
  pub record Law {A : Type 0} (solid : Bool) (starts stops : Kinds) (R : List Located → A → Type 0) (n : ℕ) (p : Parser A) : Type 0 where
    -- where it stops on fewer than n tokens
    pub runs : Runs Bad Good (least solid) (Free stops) R n p
    -- what is spelled is read
    pub reads : (ts : List Located) (x : A) → R ts x → length ts < n → (zs : List Located) → Free stops zs → ReadsAs p ts x zs
    pub size : (ts : List Located) (x : A) → R ts x → length ts < n → least solid ≤ length ts
    -- some tokens are a sentence
    pub sentence : Sentence Bad Good (Free stops) p
    pub begins : (i j : Input) (x : A) → p i ≡ Ok (x, j) → Begun solid starts i j

  -- ---- one part, then another

  reads_then : {A B : Type 0} (F C : List Located → Type 0) (p : Parser A) (g : A → Parser B) (ts us zs : List Located) (x : A) (y : B) → Starts F (g x) C → C zs
      → ((ws : List Located) → F ws → ReadsAs p ts x ws) → ReadsAs (g x) us y zs → ReadsAs (p >>= g) (ts ++ us) y zs
  reads_then F C p g ts us zs x y starts c one two f e =
      let r = two f (end_of e ts) in
      ap (λ ws. (p >>= g) (mk ws f e)) (append_assoc ts us zs)
      ∙ ap (λ o. and_then o g) (one (us ++ zs) (starts (mk (us ++ zs) f (end_of e ts)) (mk zs f (end_of (end_of e ts) us)) y r c) f e)
      ∙ r ∙ ap (λ z. Ok (y, mk zs f z)) (sym (end-append e ts us))

  module _ {A B : Type 0} {a b : Bool} {n : ℕ} {starts1 stops1 starts2 stops2 : Kinds} {P : List Located → A → Type 0} {Q : A → List Located → B → Type 0} {p : Parser A} {g : A → Parser B}
      (h : apart starts2 stops1 ≡ true) (one : Law a starts1 stops1 P n p) (two : (x : A) → Law b starts2 stops2 (Q x) (n - least a) (g x)) where
    starts_then : (x : A) → Starts (Free stops1) (g x) (Free (stops_of b stops1 stops2))
    starts_then x i j y r c = follows b starts2 stops1 stops2 i j h ((two x).begins i j y r) c

    runs_second : (x : A) → Runs Bad Good (least b) (Free (stops_of b stops1 stops2)) (Q x) (n - least a) (g x)
    runs_second x = narrow_runs Bad Good (λ xs c. free_second b stops1 stops2 xs c) (two x).runs

    sentence_second : (x : A) → Sentence Bad Good (Free (stops_of b stops1 stops2)) (g x)
    sentence_second x f e = narrow_continues (λ xs c. free_second b stops1 stops2 xs c) ((two x).sentence f e)

    reads_both : (ts : List Located) (y : B) → Then P Q ts y → length ts < n → (zs : List Located) → Free (stops_of b stops1 stops2) zs → ReadsAs (p >>= g) ts y zs
    reads_both ts y r below zs c =
        let l = length-append r.front r.back in let whole : length ts ≡ length (r.front ++ r.back) = ap length r.is in
        let few = one.size r.front r.part r.begins (omega arith) in
        subst (λ us. ReadsAs (p >>= g) us y zs) (sym r.is)
        (reads_then (Free stops1) (Free (stops_of b stops1 stops2)) p g r.front r.back zs r.part y (starts_then r.part) c (λ ws u. one.reads r.front r.part r.begins (omega arith) ws u)
        ((two r.part).reads r.back y r.ends (omega arith) zs (free_second b stops1 stops2 zs c)))

    size_both : (ts : List Located) (y : B) → Then P Q ts y → length ts < n → least (a || b) ≤ length ts
    size_both ts y r below =
        let l = length-append r.front r.back in let whole : length ts ≡ length (r.front ++ r.back) = ap length r.is in
        let few = one.size r.front r.part r.begins (omega arith) in let more = (two r.part).size r.back y r.ends (omega arith) in
        let sum = least_of a b (length r.front) (length r.back) few more in omega arith

    begins_both : (i j : Input) (y : B) → (p >>= g) i ≡ Ok (y, j) → Begun (a || b) (starts_of a starts1 starts2) i j
    begins_both i j y r = let u = ran_before (p i) g (y, j) r in begun_both a b starts1 starts2 i u.0.1 j (one.begins i u.0.1 u.0.0 u.1) ((two u.0.0).begins u.0.1 j y u.2)

    pub law_bind : Law (a || b) (starts_of a starts1 starts2) (stops_of b stops1 stops2) (Then P Q) n (p >>= g)
    law_bind = record {
      runs = taking Bad Good (least_both a b) (λ ts y r. r) (runs_bind Bad Good starts_then sentence_second one.runs
          (λ ts x r. taking Bad Good (le_refl (least b)) (λ us y q. record { front = ts; back = us; is = refl; part = x; begins = r; ends = q }) (runs_second x)));
      reads = reads_both;
      size = size_both;
      sentence = sentence_bind Bad Good starts_then one.sentence sentence_second;
      begins = begins_both;
    }

  -- ---- nothing

  pub law_pure : {A : Type 0} {n : ℕ} (x : A) → Law false no_kind no_kind (Nothing x) n (pure x)
  law_pure x = record {
    runs = runs_pure Bad Good x (record { empty = refl; is = refl });
    reads = λ ts y r below zs c f e. subst (λ us. pure x (mk (us ++ zs) f e) ≡ Ok (y, mk zs f (end_of e us))) (sym r.empty) (ap (λ z. Ok (z, mk zs f e)) (sym r.is));
    size = λ ts y r below. omega arith;
    sentence = sentence_pure Bad Good x;
    begins = λ i j y r. inr (sym (same_state x y i j r));
  }

  -- ---- the same production otherwise written

  pub law_is : {A : Type 0} {a : Bool} {n : ℕ} {starts stops : Kinds} {P Q : List Located → A → Type 0} {p : Parser A} → ((ts : List Located) (x : A) → P ts x → Q ts x) → ((ts : List Located) (x : A) → Q ts x → P ts x)
      → Law a starts stops P n p → Law a starts stops Q n p
  law_is {a = a} there back l = record {
    runs = taking Bad Good (le_refl (least a)) there l.runs;
    reads = λ ts x r below zs c. l.reads ts x (back ts x r) below zs c;
    size = λ ts x r below. l.size ts x (back ts x r) below;
    sentence = l.sentence;
    begins = l.begins;
  }

  pub law_fewer : {A : Type 0} {a : Bool} {m n : ℕ} {starts stops : Kinds} {P : List Located → A → Type 0} {p : Parser A} → m ≤ n → Law a starts stops P n p → Law a starts stops P m p
  law_fewer below l = record {
    runs = fewer_runs Bad Good below l.runs;
    reads = λ ts x r few zs c. l.reads ts x r (omega arith) zs c;
    size = λ ts x r few. l.size ts x r (omega arith);
    sentence = l.sentence;
    begins = l.begins;
  }

  -- a tree made of what is read
  module _ {A B : Type 0} {a : Bool} {n : ℕ} {starts stops : Kinds} {P : List Located → A → Type 0} {p : Parser A} (make : A → B) (l : Law a starts stops P n p) where
    made_starts : (x : A) → Starts (Free stops) (pure (make x)) (Free stops)
    made_starts x i j y r c = subst (λ (s : Input). Free stops s.ahead) (sym (same_state (make x) y i j r)) c

    pub law_made : Law a starts stops (Made make P) n (p >>= (λ x. pure (make x)))
    law_made = record {
      runs = taking Bad Good (let few : least a ≤ least a + 0 = omega arith in few) (λ ts y r. r) (runs_bind Bad Good made_starts (λ x. sentence_pure Bad Good (make x)) l.runs
          (λ ts x r. runs_pure Bad Good (make x) (subst (λ us. Made make P us (make x)) (sym (append-nil ts)) (record { part = x; spells = r; is = refl }))));
      reads = λ ts y r below zs c f e. ap (λ o. and_then o (λ x. pure (make x))) (l.reads ts r.part r.spells below zs c f e) ∙ ap (λ z. Ok (z, mk zs f (end_of e ts))) (sym r.is);
      size = λ ts y r below. l.size ts r.part r.spells below;
      sentence = sentence_bind Bad Good made_starts l.sentence (λ x. sentence_pure Bad Good (make x));
      begins = λ i j y r. let u = ran_before (p i) (λ x. pure (make x)) (y, j) r in
          let same = same_state (make u.0.0) y u.0.1 j u.2 in subst (λ s. Begun a starts i s) same (l.begins i u.0.1 u.0.0 u.1);
    }

  -- less may follow, and it begins with no more
  pub law_narrow : {A : Type 0} {a : Bool} {n : ℕ} {starts stops wider : Kinds} {P : List Located → A → Type 0} {p : Parser A} → ((xs : List Located) → Free wider xs → Free stops xs) → Law a starts stops P n p → Law a starts wider P n p
  law_narrow sub l = record {
    runs = narrow_runs Bad Good sub l.runs;
    reads = λ ts x r below zs c. l.reads ts x r below zs (sub zs c);
    size = l.size;
    sentence = λ f e. narrow_continues sub (l.sentence f e);
    begins = l.begins;
  }

  begun_wider : (a : Bool) (starts wider : Kinds) (i j : Input) → ((xs : List Located) → In starts xs → In wider xs) → Begun a starts i j → Begun a wider i j
  begun_wider true starts wider i j sub h = sub i.ahead h
  begun_wider false starts wider i j sub (inl h) = inl (sub i.ahead h)
  begun_wider false starts wider i j sub (inr h) = inr h

  -- it may be said to begin with more
  pub law_starts : {A : Type 0} {a : Bool} {n : ℕ} {starts wider stops : Kinds} {P : List Located → A → Type 0} {p : Parser A} → ((xs : List Located) → In starts xs → In wider xs) → Law a starts stops P n p → Law a wider stops P n p
  law_starts {a = a} {starts = starts} {wider = wider} sub l = record { runs = l.runs; reads = l.reads; size = l.size; sentence = l.sentence; begins = λ i j x r. begun_wider a starts wider i j sub (l.begins i j x r) }

  -- the same parser otherwise written
  pub law_same : {A : Type 0} {a : Bool} {n : ℕ} {starts stops : Kinds} {P : List Located → A → Type 0} {p q : Parser A} → ((i : Input) → q i ≡ p i) → Law a starts stops P n p → Law a starts stops P n q
  law_same same l = record {
    runs = runs_same Bad Good same l.runs;
    reads = λ ts x r below zs c f e. same (mk (ts ++ zs) f e) ∙ l.reads ts x r below zs c f e;
    size = l.size;
    sentence = λ f e. continues_same same (l.sentence f e);
    begins = λ i j x r. l.begins i j x (sym (same i) ∙ r);
  }

  -- of no tokens there is nothing to show but how it begins, and a sentence
  pub law_zero : {A : Type 0} {a : Bool} {starts stops : Kinds} {P : List Located → A → Type 0} {p : Parser A} → Sentence Bad Good (Free stops) p → ((i j : Input) (x : A) → p i ≡ Ok (x, j) → Begun a starts i j) → Law a starts stops P 0 p
  law_zero sentence begins = record {
    runs = record { stop = λ xs f e fewer. absurd (omega arith) };
    reads = λ ts x r below. absurd (omega arith);
    size = λ ts x r below. absurd (omega arith);
    sentence = sentence;
    begins = begins;
  }

  free_of : (s u : Kinds) → are_among s u ≡ true → (xs : List Located) (b : Bool) → s (kind_ahead xs) ≡ b → Free u xs → Free s xs
  free_of s u h xs false is c = is
  free_of s u h xs true is c = absurd (let q = sym (within_is s u h (kind_ahead xs) is) ∙ c in cc)

  -- by larger sets
  pub law_wider : {A : Type 0} {a : Bool} {n : ℕ} {starts stops : Kinds} {P : List Located → A → Type 0} {p : Parser A} (s u : Kinds) → are_among starts s ≡ true → are_among stops u ≡ true → Law a starts stops P n p → Law a s u P n p
  law_wider {starts = starts} {stops = stops} s u h w l = law_starts (λ xs is. within_is starts s h (kind_ahead xs) is) (law_narrow (λ xs c. free_of stops u w xs (stops (kind_ahead xs)) refl c) l)
