-- The law of loops: items up to the token that closes them, and items while their first token stands next.
use Rattle.std.proofs.Common.{◌≡◌, ℕ, zero, suc, ◌-◌, ◌<◌, ◌≤◌, ◌⊎◌, inl, inr, Bool, true, false, ◌||◌, if◌then◌else◌, List, [], ◌∷◌, ◌++◌, length, Ok, Err, ap, ◌∙◌, sym, refl, subst, append_assoc, arith}
use Rattle.std.proofs.lemmas.List.{append-nil}
use Rattle.graphql_text.specs.declared.position.Span.{Span}
use Rattle.graphql_text.specs.declared.position.SourcePosition.{SourcePosition}
use Rattle.graphql_grammar.specs.declared.kind.Kind.{Kind}
use Rattle.graphql_grammar.specs.declared.kind.Kind.TheVariants as k
use Rattle.graphql_grammar.specs.Kinds.{Kinds, only, either, no_kind, apart, are_among}
use Rattle.graphql_grammar.specs.Input.{Input, Located, Fault, Parser, Outcome, and_then, ◌>>=◌, pure, refuse, next, left}
use Rattle.graphql_grammar.specs.Steps.{sees, when, token, until, until_from, all, all_from, items_between, some_between}
use Rattle.graphql_grammar.specs.Ahead.{mk, In, Free, kind_ahead, refused_at}
use Rattle.graphql_grammar.specs.Relations.{TokenOf, Nothing, Then, ThenCloses, AllFrom, none_more, one_more, AllOf, SomeOf, Between, EitherOf}
use Rattle.graphql_grammar.proofs.Sets.{or_right, in_left, in_right}
use Rattle.graphql_grammar.proofs.Stops.{Sentence, ran_before, same_state}
use Rattle.graphql_grammar.proofs.Law.{Law, law_bind, law_pure, law_is, law_fewer, law_narrow, law_starts, law_same, law_zero}
use Rattle.graphql_grammar.proofs.Choices.{when_then, when_else, refusal-is, token_reads, sample, sample_is, law_one, law_expect, law_when}

-- each turn takes a token
abbrev pub Takes : {A : Type 0} → Parser A → Type 0
Takes {A} p = (i : Input) (x : A) (j : Input) → p i ≡ Ok (x, j) → left j < left i

-- what stands behind a part is asked only where the part leaves fewer tokens
pub same_then : {A B : Type 0} (n : ℕ) (o : Outcome A) (g h : A → Parser B) → ((x : A) (j : Input) → o ≡ Ok (x, j) → left j < n) → ((x : A) (j : Input) → left j < n → g x j ≡ h x j) → and_then o g ≡ and_then o h
same_then n (Ok p) g h fewer same = same p.0 p.1 (fewer p.0 p.1 refl)
same_then n (Err x) g h fewer same = refl

-- an item in front of some turns
turns_more : {A : Type 0} (R : List Located → A → Type 0) (found : List A) (x : A) (ts us : List Located) (xs : List A) → R ts x → AllFrom R (found ++ x ∷ []) us xs → AllFrom R found (ts ++ us) xs
turns_more R found x ts _ _ r none_more = subst (λ ws. AllFrom R found ws (found ++ x ∷ [])) (sym (append-nil ts)) (one_more [] ts found x none_more r)
turns_more R found x ts _ _ r (one_more us ws xs y m q) = subst (λ vs. AllFrom R found vs (xs ++ y ∷ [])) (append_assoc ts us ws) (one_more (ts ++ us) ws xs y (turns_more R found x ts us xs r m) q)

-- ---- items up to the token that closes them

module _ {A : Type 0} (close : Kind) (item : Parser A) (not_end : only close k.EndOfFile ≡ false) (takes : Takes item) (at_end : (f : Span) (e : SourcePosition) → item (mk [] f e) ≡ Err (refused_at f [])) where
  abbrev closing : List A → Parser (List A)
  closing found = λ i. Ok (found, next i)

  until_at_end : (m : ℕ) (found : List A) (f : Span) (e : SourcePosition) → until_from close item m found (mk [] f e) ≡ Err (refused_at f [])
  unfolding until_from
  until_at_end zero found f e = ap Err (refusal-is [] f e)
  until_at_end (suc m) found f e = when_else (only close) (closing found) (item >>= (λ x. until_from close item m (found ++ x ∷ []))) (mk [] f e) not_end ∙ ap (λ o. and_then o (λ x. until_from close item m (found ++ x ∷ []))) (at_end f e)

  enough_turns : (m n : ℕ) (found : List A) (xs : List Located) (f : Span) (e : SourcePosition) → length xs ≤ m → length xs ≤ n → until_from close item m found (mk xs f e) ≡ until_from close item n found (mk xs f e)
  unfolding until_from
  enough_turns m n found [] f e a b = until_at_end m found f e ∙ sym (until_at_end n found f e)
  enough_turns zero n found (y ∷ xs) f e a b = absurd (omega arith)
  enough_turns (suc m) zero found (y ∷ xs) f e a b = absurd (omega arith)
  enough_turns (suc m) (suc n) found (y ∷ xs) f e a b =
      ap (λ o. if sees (only close) (mk (y ∷ xs) f e) then Ok (found, next (mk (y ∷ xs) f e)) else o)
      (same_then (left (mk (y ∷ xs) f e)) (item (mk (y ∷ xs) f e)) (λ x. until_from close item m (found ++ x ∷ [])) (λ x. until_from close item n (found ++ x ∷ []))
      (λ x j r. takes (mk (y ∷ xs) f e) x j r)
      (λ x j fewer. enough_turns m n (found ++ x ∷ []) j.ahead j.finish j.end (omega arith) (omega arith)))

  until_unfolds_in : (found : List A) (xs : List Located) (f : Span) (e : SourcePosition) → until close item found (mk xs f e) ≡ when (only close) (closing found) (item >>= (λ x. until close item (found ++ x ∷ []))) (mk xs f e)
  unfolding until_from
  until_unfolds_in found [] f e = until_at_end zero found f e ∙ sym (when_else (only close) (closing found) (item >>= (λ x. until close item (found ++ x ∷ []))) (mk [] f e) not_end ∙ ap (λ o. and_then o (λ x. until close item (found ++ x ∷ []))) (at_end f e))
  until_unfolds_in found (y ∷ xs) f e =
      ap (λ o. if sees (only close) (mk (y ∷ xs) f e) then Ok (found, next (mk (y ∷ xs) f e)) else o)
      (same_then (left (mk (y ∷ xs) f e)) (item (mk (y ∷ xs) f e)) (λ x. until_from close item (length xs) (found ++ x ∷ [])) (λ x. until close item (found ++ x ∷ []))
      (λ x j r. takes (mk (y ∷ xs) f e) x j r)
      (λ x j fewer. enough_turns (length xs) (left j) (found ++ x ∷ []) j.ahead j.finish j.end (omega arith) (omega arith)))

  closing_is : (found : List A) (i : Input) → token (only close) (λ x. found) i ≡ when (only close) (closing found) refuse i
  unfolding token
  closing_is found i = refl

  turn_by : (found : List A) (i : Input) (b : Bool) → only close (kind_ahead i.ahead) ≡ b → when (only close) (closing found) (item >>= (λ x. until close item (found ++ x ∷ []))) i ≡ when (only close) (token (only close) (λ x. found)) (item >>= (λ x. until close item (found ++ x ∷ []))) i
  turn_by found i true is = let q = item >>= (λ x. until close item (found ++ x ∷ [])) in
      when_then (only close) (closing found) q i is ∙ sym (when_then (only close) (closing found) refuse i is) ∙ sym (closing_is found i) ∙ sym (when_then (only close) (token (only close) (λ x. found)) q i is)
  turn_by found i false is = let q = item >>= (λ x. until close item (found ++ x ∷ [])) in
      when_else (only close) (closing found) q i is ∙ sym (when_else (only close) (token (only close) (λ x. found)) q i is)

  -- a turn: the token that closes, or an item and the turns behind it
  pub until_unfolds : (found : List A) (i : Input) → until close item found i ≡ when (only close) (token (only close) (λ x. found)) (item >>= (λ x. until close item (found ++ x ∷ []))) i
  until_unfolds found i = until_unfolds_in found i.ahead i.finish i.end ∙ turn_by found i (only close (kind_ahead i.ahead)) refl

  module _ (Bad : Located → Fault → Type 0) (Good : Located → Type 0) (starts stops : Kinds) (R : List Located → A → Type 0)
      (others : apart starts (only close) ≡ true) (again : apart (either (only close) starts) stops ≡ true) where
    abbrev UntilLaw : ℕ → List A → Type 0
    UntilLaw n found = Law Bad Good true (either (only close) starts) no_kind (ThenCloses (AllFrom R found) close) n (until close item found)

    until_sentence : (found : List A) → Sentence Bad Good (Free no_kind) (until close item found)
    until_sentence found f e = let a : Located = record { item = sample close; span = f } in record {
      more = a ∷ [];
      tree = found;
      last = f.end;
      reads_on = λ zs h. until_unfolds found (mk (a ∷ zs) f e) ∙ when_then (only close) (token (only close) (λ x. found)) (item >>= (λ x. until close item (found ++ x ∷ []))) (mk (a ∷ zs) f e) (sample_is close)
          ∙ token_reads (only close) (λ x. found) a zs f e (sample_is close);
    }

    until_begins_by : (n : ℕ) → Law Bad Good true starts stops R n item → (found : List A) (i j : Input) (xs : List A) (b : Bool) → only close (kind_ahead i.ahead) ≡ b → until close item found i ≡ Ok (xs, j) → In (either (only close) starts) i.ahead
    until_begins_by n l found i j xs true is r = in_left (only close (kind_ahead i.ahead)) (starts (kind_ahead i.ahead)) is
    until_begins_by n l found i j xs false is r =
        let q = sym (until_unfolds found i ∙ when_else (only close) (token (only close) (λ x. found)) (item >>= (λ x. until close item (found ++ x ∷ []))) i is) ∙ r in
        let u = ran_before (item i) (λ x. until close item (found ++ x ∷ [])) (xs, j) q in
        in_right (only close (kind_ahead i.ahead)) (starts (kind_ahead i.ahead)) (l.begins i u.0.1 u.0.0 u.1)

    Turn : List A → List Located → List A → Type 0
    Turn found = EitherOf (TokenOf (only close) (λ x. found)) (Then R (λ x. ThenCloses (AllFrom R (found ++ x ∷ [])) close))

    turn_ended : (found : List A) (ts : List Located) (xs : List A) → Turn found ts xs → ThenCloses (AllFrom R found) close ts xs
    unfolding Turn
    turn_ended found ts xs (inl r) = record { inside = []; last = r.at; is = r.alone; closes = r.of_kind; spells = subst (λ ys. AllFrom R found [] ys) (sym r.means) none_more }
    turn_ended found ts xs (inr r) = let m = r.ends in record {
      inside = r.front ++ m.inside;
      last = m.last;
      is = r.is ∙ ap (λ ws. r.front ++ ws) m.is ∙ sym (append_assoc r.front m.inside (m.last ∷ []));
      closes = m.closes;
      spells = turns_more R found r.part r.front m.inside xs r.begins m.spells;
    }

    -- the first of some turns
    first_turn : (found : List A) (ts : List Located) (xs : List A) → AllFrom R found ts xs → ((ts ≡ []) × (xs ≡ found)) ⊎ (Then R (λ x. AllFrom R (found ++ x ∷ [])) ts xs)
    first_turn found _ _ none_more = inl (refl, refl)
    first_turn found _ _ (one_more ts us xs x m r) = elim (first_turn found ts xs m) [
      | inl h ↦ inr (record { front = us; back = []; is = ap (λ ws. ws ++ us) h.0 ∙ sym (append-nil us); part = x; begins = r; ends = subst (λ ys. AllFrom R (found ++ x ∷ []) [] (ys ++ x ∷ [])) (sym h.1) none_more })
      | inr h ↦ inr (record { front = h.front; back = h.back ++ us; is = ap (λ ws. ws ++ us) h.is ∙ append_assoc h.front h.back us; part = h.part; begins = h.begins; ends = one_more h.back us xs x h.ends r })
    ]

    ended_turn : (found : List A) (ts : List Located) (xs : List A) → ThenCloses (AllFrom R found) close ts xs → Turn found ts xs
    unfolding Turn
    ended_turn found ts xs r = elim (first_turn found r.inside xs r.spells) [
      | inl h ↦ inl (record { at = r.last; alone = r.is ∙ ap (λ ws. ws ++ r.last ∷ []) h.0; of_kind = r.closes; means = h.1 })
      | inr h ↦ inr (record {
        front = h.front;
        back = h.back ++ r.last ∷ [];
        is = r.is ∙ ap (λ ws. ws ++ r.last ∷ []) h.is ∙ append_assoc h.front h.back (r.last ∷ []);
        part = h.part;
        begins = h.begins;
        ends = record { inside = h.back; last = r.last; is = refl; closes = r.closes; spells = h.ends };
      })
    ]

    -- a loop begins with the token that closes it, or as its items do
    pub law_until : are_among (only close) (only close) ≡ true → (n : ℕ) → Law Bad Good true starts stops R n item → (found : List A) → UntilLaw n found
    unfolding Turn
    law_until self zero l found = law_zero Bad Good (until_sentence found) (λ i j xs r. until_begins_by zero l found i j xs (only close (kind_ahead i.ahead)) refl r)
    law_until self (suc n) l found = law_is Bad Good (turn_ended found) (ended_turn found) (law_same Bad Good (until_unfolds found)
        (law_when Bad Good (only close) self others (law_one Bad Good close found not_end)
        (law_bind Bad Good again l (λ x. law_fewer Bad Good (omega arith) (law_until self n (law_fewer Bad Good (omega arith) l) (found ++ x ∷ []))))))

    -- ---- between two tokens

    module _ (w : Kind) (opens : only w k.EndOfFile ≡ false) (self : are_among (only close) (only close) ≡ true) (free : apart (either (only close) starts) no_kind ≡ true) where
      between_of : (M : List Located → List A → Type 0) (ts : List Located) (xs : List A) → Then (TokenOf {A = Unit {0}} (only w) (λ v. tt {0})) (λ u. ThenCloses M close) ts xs → Between M w close ts xs
      between_of M ts xs r = let o = r.begins in let m = r.ends in
          record { first = o.at; inside = m.inside; last = m.last; is = r.is ∙ ap (λ us. us ++ r.back) o.alone ∙ ap (λ us. o.at ∷ us) m.is; opens = o.of_kind; closes = m.closes; spells = m.spells }

      of_between : (M : List Located → List A → Type 0) (ts : List Located) (xs : List A) → Between M w close ts xs → Then (TokenOf {A = Unit {0}} (only w) (λ v. tt {0})) (λ u. ThenCloses M close) ts xs
      of_between M ts xs r = record {
        front = r.first ∷ [];
        back = r.inside ++ r.last ∷ [];
        is = r.is;
        part = tt;
        begins = record { at = r.first; alone = refl; of_kind = r.opens; means = refl };
        ends = record { inside = r.inside; last = r.last; is = refl; closes = r.closes; spells = r.spells };
      }

      -- any number of items
      pub law_between : (n : ℕ) → Law Bad Good true starts stops R (n - 1) item → Law Bad Good true (only w) no_kind (Between (AllOf R) w close) n (items_between w close item)
      law_between n l = law_is Bad Good (between_of (AllOf R)) (of_between (AllOf R)) (law_bind Bad Good free (law_expect Bad Good w opens) (λ u. law_until self (n - 1) l []))

      some_ended : (ts : List Located) (xs : List A) → Then R (λ x. ThenCloses (AllFrom R (x ∷ [])) close) ts xs → ThenCloses (SomeOf R) close ts xs
      some_ended ts xs r = let m = r.ends in record {
        inside = r.front ++ m.inside;
        last = m.last;
        is = r.is ∙ ap (λ ws. r.front ++ ws) m.is ∙ sym (append_assoc r.front m.inside (m.last ∷ []));
        closes = m.closes;
        spells = record { front = r.front; back = m.inside; is = refl; part = r.part; begins = r.begins; ends = m.spells };
      }

      ended_some : (ts : List Located) (xs : List A) → ThenCloses (SomeOf R) close ts xs → Then R (λ x. ThenCloses (AllFrom R (x ∷ [])) close) ts xs
      ended_some ts xs r = let m = r.spells in record {
        front = m.front;
        back = m.back ++ r.last ∷ [];
        is = r.is ∙ ap (λ ws. ws ++ r.last ∷ []) m.is ∙ append_assoc m.front m.back (r.last ∷ []);
        part = m.part;
        begins = m.begins;
        ends = record { inside = m.back; last = r.last; is = refl; closes = r.closes; spells = m.ends };
      }

      -- one item at least
      pub law_some_between : apart starts no_kind ≡ true → (n : ℕ) → Law Bad Good true starts stops R (n - 1) item → Law Bad Good true (only w) no_kind (Between (SomeOf R) w close) n (some_between w close item)
      law_some_between first n l = law_is Bad Good (between_of (SomeOf R)) (of_between (SomeOf R)) (law_bind Bad Good first (law_expect Bad Good w opens)
          (λ u. law_is Bad Good some_ended ended_some (law_bind Bad Good again l (λ x. law_until self (n - 1 - 1) (law_fewer Bad Good (omega arith) l) (x ∷ [])))))

-- ---- items while one of their first tokens stands next

module _ {A : Type 0} (kinds : Kinds) (item : Parser A) (not_end : kinds k.EndOfFile ≡ false) (takes : Takes item) where
  all_at_end : (m : ℕ) (found : List A) (f : Span) (e : SourcePosition) → all_from kinds item m found (mk [] f e) ≡ Ok (found, mk [] f e)
  unfolding all_from
  all_at_end zero found f e = refl
  all_at_end (suc m) found f e = when_else kinds (item >>= (λ x. all_from kinds item m (found ++ x ∷ []))) (pure found) (mk [] f e) not_end

  enough_all : (m n : ℕ) (found : List A) (xs : List Located) (f : Span) (e : SourcePosition) → length xs ≤ m → length xs ≤ n → all_from kinds item m found (mk xs f e) ≡ all_from kinds item n found (mk xs f e)
  unfolding all_from
  enough_all m n found [] f e a b = all_at_end m found f e ∙ sym (all_at_end n found f e)
  enough_all zero n found (y ∷ xs) f e a b = absurd (omega arith)
  enough_all (suc m) zero found (y ∷ xs) f e a b = absurd (omega arith)
  enough_all (suc m) (suc n) found (y ∷ xs) f e a b =
      ap (λ o. if sees kinds (mk (y ∷ xs) f e) then o else Ok (found, mk (y ∷ xs) f e))
      (same_then (left (mk (y ∷ xs) f e)) (item (mk (y ∷ xs) f e)) (λ x. all_from kinds item m (found ++ x ∷ [])) (λ x. all_from kinds item n (found ++ x ∷ []))
      (λ x j r. takes (mk (y ∷ xs) f e) x j r)
      (λ x j fewer. enough_all m n (found ++ x ∷ []) j.ahead j.finish j.end (omega arith) (omega arith)))

  all_unfolds_in : (found : List A) (xs : List Located) (f : Span) (e : SourcePosition) → all kinds item found (mk xs f e) ≡ when kinds (item >>= (λ x. all kinds item (found ++ x ∷ []))) (pure found) (mk xs f e)
  unfolding all_from
  all_unfolds_in found [] f e = all_at_end zero found f e ∙ sym (when_else kinds (item >>= (λ x. all kinds item (found ++ x ∷ []))) (pure found) (mk [] f e) not_end)
  all_unfolds_in found (y ∷ xs) f e =
      ap (λ o. if sees kinds (mk (y ∷ xs) f e) then o else Ok (found, mk (y ∷ xs) f e))
      (same_then (left (mk (y ∷ xs) f e)) (item (mk (y ∷ xs) f e)) (λ x. all_from kinds item (length xs) (found ++ x ∷ [])) (λ x. all kinds item (found ++ x ∷ []))
      (λ x j r. takes (mk (y ∷ xs) f e) x j r)
      (λ x j fewer. enough_all (length xs) (left j) (found ++ x ∷ []) j.ahead j.finish j.end (omega arith) (omega arith)))

  pub all_unfolds : (found : List A) (i : Input) → all kinds item found i ≡ when kinds (item >>= (λ x. all kinds item (found ++ x ∷ []))) (pure found) i
  all_unfolds found i = all_unfolds_in found i.ahead i.finish i.end

  module _ (Bad : Located → Fault → Type 0) (Good : Located → Type 0) (starts stops : Kinds) (R : List Located → A → Type 0) (inside : are_among starts kinds ≡ true) (again : apart starts stops ≡ true) where
    abbrev AllLaw : ℕ → List A → Type 0
    AllLaw n found = Law Bad Good false starts (either stops kinds) (AllFrom R found) n (all kinds item found)

    free_kinds : (xs : List Located) → Free (either stops kinds) xs → Free kinds xs
    free_kinds xs h = or_right (stops (kind_ahead xs)) (kinds (kind_ahead xs)) h

    all_sentence : (found : List A) → Sentence Bad Good (Free (either stops kinds)) (all kinds item found)
    all_sentence found f e = record {
      more = [];
      tree = found;
      last = e;
      reads_on = λ zs c. all_unfolds found (mk zs f e) ∙ when_else kinds (item >>= (λ x. all kinds item (found ++ x ∷ []))) (pure found) (mk zs f e) (free_kinds zs c);
    }

    all_begins_by : (n : ℕ) → Law Bad Good true starts stops R n item → (found : List A) (i j : Input) (xs : List A) (b : Bool) → kinds (kind_ahead i.ahead) ≡ b → all kinds item found i ≡ Ok (xs, j) → (In starts i.ahead) ⊎ (j ≡ i)
    all_begins_by n l found i j xs true is r =
        let q = sym (all_unfolds found i ∙ when_then kinds (item >>= (λ x. all kinds item (found ++ x ∷ []))) (pure found) i is) ∙ r in
        let u = ran_before (item i) (λ x. all kinds item (found ++ x ∷ [])) (xs, j) q in inl (l.begins i u.0.1 u.0.0 u.1)
    all_begins_by n l found i j xs false is r = inr (sym (same_state found xs i j (sym (all_unfolds found i ∙ when_else kinds (item >>= (λ x. all kinds item (found ++ x ∷ []))) (pure found) i is) ∙ r)))

    Step : List A → List Located → List A → Type 0
    Step found = EitherOf (Then R (λ x. AllFrom R (found ++ x ∷ []))) (Nothing found)

    of_step : (found : List A) (ts : List Located) (xs : List A) → Step found ts xs → AllFrom R found ts xs
    unfolding Step
    of_step found ts xs (inl r) = subst (λ us. AllFrom R found us xs) (sym r.is) (turns_more R found r.part r.front r.back xs r.begins r.ends)
    of_step found ts xs (inr r) = subst (λ us. AllFrom R found us xs) (sym r.empty) (subst (λ ys. AllFrom R found [] ys) (sym r.is) none_more)

    to_step : (found : List A) (ts : List Located) (xs : List A) → AllFrom R found ts xs → Step found ts xs
    unfolding Step
    to_step found _ _ none_more = inr (record { empty = refl; is = refl })
    to_step found _ _ (one_more ts us xs x m r) = elim (to_step found ts xs m) [
      | inr h ↦ inl (record { front = us; back = []; is = ap (λ ws. ws ++ us) h.empty ∙ sym (append-nil us); part = x; begins = r; ends = subst (λ ys. AllFrom R (found ++ x ∷ []) [] (ys ++ x ∷ [])) (sym h.is) none_more })
      | inl h ↦ inl (record { front = h.front; back = h.back ++ us; is = ap (λ ws. ws ++ us) h.is ∙ append_assoc h.front h.back us; part = h.part; begins = h.begins; ends = one_more h.back us xs x h.ends r })
    ]

    or_none : (b : Bool) → (b || false) ≡ true → b ≡ true
    or_none true h = refl
    or_none false h = h

    step_starts : (xs : List Located) → In (either starts no_kind) xs → In starts xs
    step_starts xs h = or_none (starts (kind_ahead xs)) h

    none_of : (a b : Bool) → (a || b) ≡ false → (((a || b) || a) || (false || b)) ≡ false
    none_of true b h = absurd (cc)
    none_of false true h = absurd (cc)
    none_of false false h = refl

    step_stops : (xs : List Located) → Free (either stops kinds) xs → Free (either (either (either stops kinds) stops) (either no_kind kinds)) xs
    step_stops xs h = none_of (stops (kind_ahead xs)) (kinds (kind_ahead xs)) h

    pub law_all_from : (n : ℕ) → Law Bad Good true starts stops R n item → (found : List A) → AllLaw n found
    unfolding Step
    law_all_from zero l found = law_zero Bad Good (all_sentence found) (λ i j xs r. all_begins_by zero l found i j xs (kinds (kind_ahead i.ahead)) refl r)
    law_all_from (suc n) l found = law_starts Bad Good step_starts (law_narrow Bad Good step_stops (law_is Bad Good (of_step found) (to_step found) (law_same Bad Good (all_unfolds found)
        (law_when Bad Good kinds inside refl
        (law_bind Bad Good again l (λ x. law_fewer Bad Good (omega arith) (law_all_from n (law_fewer Bad Good (omega arith) l) (found ++ x ∷ []))))
        (law_pure Bad Good found)))))

    pub law_all : (n : ℕ) → Law Bad Good true starts stops R n item → AllLaw n []
    law_all n l = law_all_from n l []
