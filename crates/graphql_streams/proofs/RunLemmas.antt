-- Lines that are answered, one after another.
use Rattle.std.proofs.Common.{◌≡◌, ⊎_elim, inl, inr, refl, sym, ◌∙◌, ap, subst, ℕ, suc, ◌+◌, ◌<◌, arith, List, [], ◌∷◌, ◌++◌, append-nil, append_assoc, length, take, drop}
use Rattle.std.proofs.lemmas.Bool.{cases_lt}
use Rattle.std.proofs.lemmas.List.{take_all}
use Rattle.std.proofs.Math.Seq.{take-nil}
use Rattle.graphql_streams.specs.Lines.{EndsHere, EndsLater, kept_of, last_line, whole_lines}
use Rattle.graphql_streams.specs.Runs.{LineAnswered, Broken, Bytes, Run, RunPartly}
use Rattle.graphql_streams.specs.Waiting.{Made, MadePartly}

module _ {S : Type 0} (answers : S → Bytes → Bytes → S → Type 0) where
  pub run_one : (s t : S) (line text : Bytes) → LineAnswered answers s line text t → Run answers s (line ∷ []) text t
  run_one s t line text h = (t, text, [], h, sym (append-nil text), (refl, refl))

  pub run_more : (s m t : S) (xs ys : List Bytes) (a b : Bytes) → Run answers s xs a m → Run answers m ys b t → Run answers s (xs ++ ys) (a ++ b) t
  run_more s m t [] ys a b (nil, same) r = subst (λ z. Run answers z ys (a ++ b) t) same (subst (λ z. Run answers m ys z t) (sym (ap (λ z. z ++ b) nil)) r)
  run_more s m t (x ∷ xs) ys a b (k, c, d, h, is, rest) r = (k, c, d ++ b, h, ap (λ z. z ++ b) is ∙ append_assoc c d b, run_more k m t xs ys d b rest r)

  pub made_none : (s : S) (old : Bytes) → Made answers s [] old old s
  made_none s old = record { text = []; is = sym (append-nil old); run = (refl, refl) }

  pub made_more : (s m t : S) (xs ys : List Bytes) (old mid new : Bytes) → Made answers s xs old mid m → Made answers m ys mid new t → Made answers s (xs ++ ys) old new t
  made_more s m t xs ys old mid new a b = record {
    text = a.text ++ b.text;
    is = b.is ∙ ap (λ z. z ++ b.text) a.is ∙ append_assoc old a.text b.text;
    run = run_more s m t xs ys a.text b.text a.run b.run;
  }

  module _ (breaks : S → Bytes → S → Type 0) where
    pub broken_within : (s t : S) (xs ys : List Bytes) → Broken answers breaks s xs t → Broken answers breaks s (xs ++ ys) t
    broken_within s t [] [] h = h
    broken_within s t [] (y ∷ ys) h = inl h
    broken_within s t (x ∷ xs) ys h = h

    pub partly_within : (s t : S) (xs ys : List Bytes) (text : Bytes) → RunPartly answers breaks s xs text t → RunPartly answers breaks s (xs ++ ys) text t
    partly_within s t xs ys text p = record {
      done = p.done;
      others = p.others ++ ys;
      is = ap (λ z. z ++ ys) p.is ∙ append_assoc p.done p.others ys;
      between = p.between;
      run = p.run;
      broken = broken_within p.between t p.others ys p.broken;
    }

    pub partly_more : (s m t : S) (xs ys : List Bytes) (a b : Bytes) → Run answers s xs a m → RunPartly answers breaks m ys b t → RunPartly answers breaks s (xs ++ ys) (a ++ b) t
    partly_more s m t xs ys a b r p = record {
      done = xs ++ p.done;
      others = p.others;
      is = ap (λ z. xs ++ z) p.is ∙ sym (append_assoc xs p.done p.others);
      between = p.between;
      run = run_more s m p.between xs p.done a b r p.run;
      broken = p.broken;
    }

    -- all was answered
    pub partly_all : (s t : S) (xs : List Bytes) (a : Bytes) → Run answers s xs a t → RunPartly answers breaks s xs a t
    partly_all s t xs a r = record { done = xs; others = []; is = sym (append-nil xs); between = t; run = r; broken = refl }

    -- memory ran out at the first of these
    pub partly_none : (s t : S) (xs : List Bytes) → Broken answers breaks s xs t → RunPartly answers breaks s xs [] t
    partly_none s t xs h = record { done = []; others = xs; is = refl; between = s; run = (refl, refl); broken = h }

    pub partly_then : (s m t : S) (xs ys : List Bytes) (old mid new : Bytes) → Made answers s xs old mid m → new ≡ mid → Broken answers breaks m ys t → MadePartly answers breaks s (xs ++ ys) old new t
    partly_then s m t xs ys old mid new a same h = record {
      text = a.text ++ [];
      is = same ∙ a.is ∙ ap (λ z. old ++ z) (sym (append-nil a.text));
      run = partly_more s m t xs ys a.text [] a.run (partly_none m t ys h);
    }

    pub made_within : (s t : S) (xs ys : List Bytes) (old new : Bytes) → MadePartly answers breaks s xs old new t → MadePartly answers breaks s (xs ++ ys) old new t
    made_within s t xs ys old new p = record { text = p.text; is = p.is; run = partly_within s t xs ys p.text p.run }

  -- a line that is too long is decided by its front
  module _ (n : ℕ) where
    pub answered-whole : (s t : S) (xs text : Bytes) → ((line text : Bytes) (t : S) → n < length line → answers s (kept_of n line) text t → answers s line text t)
        → LineAnswered answers s (kept_of n xs) text t → LineAnswered answers s xs text t
    answered-whole s t [] text long h = subst (λ l. LineAnswered answers s l text t) (take-nil (n + 1)) h
    answered-whole s t (x ∷ xs) text long h = ⊎_elim
        (λ l. (let front : take (n + 1) (x ∷ xs) ≡ x ∷ take n xs = rw (next n) refl in
        long (x ∷ xs) text t l (subst (λ z. answers s z text t) (sym front) (subst (λ z. LineAnswered answers s z text t) front h))))
        (λ l. subst (λ z. LineAnswered answers s z text t) (take_all (n + 1) (x ∷ xs) (omega (arith, l))) h)
        (cases_lt n (length (x ∷ xs)))
      where
        next : (k : ℕ) → k + 1 ≡ suc k
        next k = omega arith

    pub made-whole : (s t : S) (xs old new : Bytes) → ((line text : Bytes) (t : S) → n < length line → answers s (kept_of n line) text t → answers s line text t)
        → Made answers s (kept_of n xs ∷ []) old new t → Made answers s (xs ∷ []) old new t
    made-whole s t xs old new long m =
        record { text = m.text; is = m.is; run = (m.run.0, m.run.1, m.run.2, answered-whole s m.run.0 xs m.run.1 long m.run.3, m.run.4, m.run.5) }

    pub broken-whole : (breaks : S → Bytes → S → Type 0) (s t : S) (xs : Bytes) → ((line : Bytes) (t : S) → n < length line → breaks s (kept_of n line) t → breaks s line t)
        → Broken answers breaks s (kept_of n xs ∷ []) t → Broken answers breaks s (xs ∷ []) t
    broken-whole breaks s t xs long h = ⊎_elim (λ e. inl e)
        (λ b. inr (⊎_elim (λ l. long xs t l b) (λ l. subst (λ z. breaks s z t) (take_all (n + 1) xs (omega (arith, l))) b) (cases_lt n (length xs)))) h

  -- within a block: some lines of it were answered, the next has begun, and the rest of the block is to come
  pub record Feeding (limit : ℕ) (begun block rest : Bytes) (s : S) (old line new : Bytes) (t : S) : Type 0 where
    pub ended : List Bytes
    pub now : Bytes
    pub whole : whole_lines begun block ≡ ended ++ whole_lines now rest
    pub last : last_line begun block ≡ last_line now rest
    pub made : Made answers s ended old new t
    pub kept : line ≡ kept_of limit now

  pub feeding-first : (limit : ℕ) (begun block : Bytes) (s : S) (old line : Bytes) → line ≡ kept_of limit begun → Feeding limit begun block block s old line old s
  feeding-first limit begun block s old line is = record { ended = []; now = begun; whole = refl; last = refl; made = made_none s old; kept = is }

  module _ (limit : ℕ) (begun block rest : Bytes) (s m : S) (old line mid : Bytes) (f : Feeding limit begun block rest s old line mid m) where
    pub feeding-more : (end : ℕ) (cleared new : Bytes) (t : S) → EndsHere rest end → Made answers m ((f.now ++ take end rest) ∷ []) mid new t → cleared ≡ []
        → Feeding limit begun block (drop (end + 1) rest) s old cleared new t
    feeding-more end cleared new t here more none = record {
      ended = f.ended ++ (f.now ++ take end rest) ∷ [];
      now = [];
      whole = f.whole ∙ ap (λ ls. f.ended ++ ls) (here.first f.now) ∙ sym (append_assoc f.ended ((f.now ++ take end rest) ∷ []) (whole_lines [] (drop (end + 1) rest)));
      last = f.last ∙ here.last f.now;
      made = made_more s m t f.ended ((f.now ++ take end rest) ∷ []) old mid new f.made more;
      kept = none ∙ sym (take-nil (limit + 1));
    }

    pub feeding-all : EndsLater rest → Made answers s (whole_lines begun block) old mid m
    feeding-all later = subst (λ ls. Made answers s ls old mid m) (sym (f.whole ∙ ap (λ ls. f.ended ++ ls) (later.none f.now) ∙ append-nil f.ended)) f.made

    pub feeding-kept : (kept : Bytes) → EndsLater rest → kept ≡ kept_of limit (f.now ++ rest) → kept ≡ kept_of limit (last_line begun block)
    feeding-kept kept later is = is ∙ ap (kept_of limit) (sym (f.last ∙ later.last f.now))

    module _ (breaks : S → Bytes → S → Type 0) where
      pub feeding-partly : (end : ℕ) (new : Bytes) (t : S) → EndsHere rest end → new ≡ mid → Broken answers breaks m ((f.now ++ take end rest) ∷ []) t
          → MadePartly answers breaks s (whole_lines begun block) old new t
      feeding-partly end new t here same broken =
          subst (λ ls. MadePartly answers breaks s ls old new t)
          (append_assoc f.ended ((f.now ++ take end rest) ∷ []) (whole_lines [] (drop (end + 1) rest)) ∙ sym (f.whole ∙ ap (λ ls. f.ended ++ ls) (here.first f.now)))
          (made_within breaks s t (f.ended ++ (f.now ++ take end rest) ∷ []) (whole_lines [] (drop (end + 1) rest)) old new (partly_then breaks s m t f.ended ((f.now ++ take end rest) ∷ []) old mid new f.made same broken))

      pub feeding-partly_all : EndsLater rest → MadePartly answers breaks s (whole_lines begun block) old mid m
      feeding-partly_all later = let all = feeding-all later in record { text = all.text; is = all.is; run = partly_all breaks s m (whole_lines begun block) all.text all.run }
