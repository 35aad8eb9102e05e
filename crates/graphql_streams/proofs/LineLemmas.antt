-- Where lines end, and what is kept of one that has begun.
use Rattle.std.proofs.Common.{◌≡◌, ⊎_elim, refl, sym, ◌∙◌, ap, subst, ℕ, suc, ◌+◌, ◌<◌, ◌≤◌, arith, Bool, true, false, not, cond, ◌==◌, List, [], ◌∷◌, ◌++◌, append-nil, append_assoc, length, take, drop, Some, None}
use Rattle.std.specs.Prelude.{position, nat_lt}
use Rattle.std.specs.List.{position_or_len}
use Rattle.std.proofs.lemmas.Bool.{cases_lt, ltb-true, lt-ltb}
use Rattle.std.proofs.lemmas.List.{take_all, length-take-le}
use Rattle.std.proofs.Math.Seq.{take-append-add}
use Rattle.graphql_streams.specs.Lines.{EndsAt, EndsHere, EndsLater, kept_of, last_line, whole_lines}

abbrev feed : ℕ → Bool
feed b = b == 10

-- how many bytes stand before the first line feed
abbrev front : List ℕ → ℕ
front bs = position_or_len feed bs

module _ (b : ℕ) (bs : List ℕ) where
  whole-feed : (begun : List ℕ) → feed b ≡ true → whole_lines begun (b ∷ bs) ≡ begun ∷ whole_lines [] bs
  whole-feed begun e = ap (λ q. cond q (begun ∷ whole_lines [] bs) (whole_lines (begun ++ b ∷ []) bs)) e

  whole-other : (begun : List ℕ) → feed b ≡ false → whole_lines begun (b ∷ bs) ≡ whole_lines (begun ++ b ∷ []) bs
  whole-other begun e = ap (λ q. cond q (begun ∷ whole_lines [] bs) (whole_lines (begun ++ b ∷ []) bs)) e

  last-feed : (begun : List ℕ) → feed b ≡ true → last_line begun (b ∷ bs) ≡ last_line [] bs
  last-feed begun e = ap (λ q. cond q (last_line [] bs) (last_line (begun ++ b ∷ []) bs)) e

  last-other : (begun : List ℕ) → feed b ≡ false → last_line begun (b ∷ bs) ≡ last_line (begun ++ b ∷ []) bs
  last-other begun e = ap (λ q. cond q (last_line [] bs) (last_line (begun ++ b ∷ []) bs)) e

  front-feed : feed b ≡ true → front (b ∷ bs) ≡ 0
  front-feed e = ap (λ q. cond (not q) (1 + front bs) 0) e

  front-other : feed b ≡ false → front (b ∷ bs) ≡ suc (front bs)
  front-other e = ap (λ q. cond (not q) (1 + front bs) 0) e ∙ omega arith

ends-here : (bs : List ℕ) → front bs < length bs → EndsHere bs (front bs)
ends-here [] h = absurd (omega (arith, h))
ends-here (b ∷ bs) h = by_test (ends-here bs) (feed b) refl
  where
    by_test : (front bs < length bs → EndsHere bs (front bs)) → (q : Bool) → feed b ≡ q → EndsHere (b ∷ bs) (front (b ∷ bs))
    by_test ih true e = subst (EndsHere (b ∷ bs)) (sym (front-feed b bs e)) (record {
      first = λ begun. whole-feed b bs begun e ∙ ap (λ l. l ∷ whole_lines [] bs) (sym (append-nil begun));
      last = λ begun. last-feed b bs begun e;
    })
    by_test ih false e =
        let n = front bs in
        let here : EndsHere bs n = ih (omega (arith, h, front-other b bs e)) in
        let behind : drop (suc n + 1) (b ∷ bs) ≡ drop (n + 1) bs = (let k : suc n + 1 ≡ suc (n + 1) = omega arith in ap (λ m. drop m (b ∷ bs)) k) in
        subst (EndsHere (b ∷ bs)) (sym (front-other b bs e)) (record {
          first = λ begun. whole-other b bs begun e ∙ here.first (begun ++ b ∷ []) ∙ ap (λ l. l ∷ whole_lines [] (drop (n + 1) bs)) (append_assoc begun (b ∷ []) (take n bs)) ∙ ap (λ l. (begun ++ b ∷ take n bs) ∷ whole_lines [] l) (sym behind);
          last = λ begun. last-other b bs begun e ∙ here.last (begun ++ b ∷ []) ∙ ap (last_line []) (sym behind);
        })

ends-later : (bs : List ℕ) → length bs ≤ front bs → EndsLater bs
ends-later [] h = record { none = λ begun. refl; last = λ begun. sym (append-nil begun) }
ends-later (b ∷ bs) h = by_test (ends-later bs) (feed b) refl
  where
    by_test : (length bs ≤ front bs → EndsLater bs) → (q : Bool) → feed b ≡ q → EndsLater (b ∷ bs)
    by_test ih true e = absurd (omega (arith, h, front-feed b bs e))
    by_test ih false e =
        let later : EndsLater bs = ih (omega (arith, h, front-other b bs e)) in
        record {
          none = λ begun. whole-other b bs begun e ∙ later.none (begun ++ b ∷ []);
          last = λ begun. last-other b bs begun e ∙ later.last (begun ++ b ∷ []) ∙ append_assoc begun (b ∷ []) bs;
        }

pub ends-at : (bs : List ℕ) → EndsAt bs (position feed bs)
ends-at bs = by_test (nat_lt (front bs) (length bs)) refl
  where
    by_test : (q : Bool) → nat_lt (front bs) (length bs) ≡ q → EndsAt bs (cond q (Some (front bs)) None)
    by_test true e = ends-here bs (ltb-true (front bs) (length bs) e)
    by_test false e = ends-later bs (⊎_elim (λ h. (let p : true ≡ false = sym (lt-ltb (front bs) (length bs) h) ∙ e in cc)) (λ h. h) (cases_lt (front bs) (length bs)))

-- a front that is not full is all
pub all-kept : (n : ℕ) (xs : List ℕ) → length (kept_of n xs) ≤ n → kept_of n xs ≡ xs
all-kept n xs h = ⊎_elim
    (λ l. absurd (omega (arith, h, length-take-le (n + 1) xs (omega (arith, l)))))
    (λ l. take_all (n + 1) xs (omega (arith, l)))
    (cases_lt n (length xs))

pub none-begun : (n : ℕ) (xs : List ℕ) → kept_of n xs ≡ [] → xs ≡ []
none-begun n xs h = sym (all-kept n xs (omega (arith, ap length h))) ∙ h

-- what is kept of a line and of what comes
pub kept-more : (n room : ℕ) (kept begun bytes : List ℕ) → kept ≡ kept_of n begun → length kept ≤ n → length kept + room ≡ n + 1 → kept ++ take room bytes ≡ kept_of n (begun ++ bytes)
kept-more n room kept begun bytes is short room_is =
    let whole : kept ≡ begun = is ∙ all-kept n begun (subst (λ xs. length xs ≤ n) is short) in
    sym (take-append-add kept bytes room) ∙ ap (λ k. take k (kept ++ bytes)) room_is ∙ ap (λ xs. take (n + 1) (xs ++ bytes)) whole

-- one more than the limit is too long
pub front-longer : (n : ℕ) (xs : List ℕ) → n < length xs → length (kept_of n xs) ≤ n → ⊥
front-longer n xs l h = omega (arith, h, length-take-le (n + 1) xs (omega (arith, l)))
