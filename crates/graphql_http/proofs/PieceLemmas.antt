-- The pieces of a text, one after another.
use Rattle.std.proofs.Common.{◌≡◌, ℕ, suc, ◌+◌, ◌<◌, ◌≤◌, Bool, true, false, cond, List, [], ◌∷◌, length, take, drop, slice_index, sym, refl, ap, ◌∙◌, subst, arith}
use Rattle.std.specs.Prelude.{filter}
use Rattle.std.proofs.lemmas.Bool.{cond-true, cond-false, lt-ltb, le-ltb}
use Rattle.std.proofs.lemmas.List.{drop_all, drop_more}
use Rattle.form_urlencoded.specs.Form.{is_nonempty, onto_first}
use Rattle.graphql_http.specs.Pieces.{Quoting, Outside, Bytes, IsNextPiece, after, ends, end_from, first_piece, behind_first, split_from, pieces}

-- one byte further
end_from-cons : (q : Quoting) (s b : ℕ) (bs : Bytes) → ends q s b ≡ false
    → end_from q s (b ∷ bs) ≡ suc (end_from (after q b) s bs)
unfolding end_from
end_from-cons q s b bs later = cond-false _ _ _ later

end_from-here : (q : Quoting) (s b : ℕ) (bs : Bytes) → ends q s b ≡ true → end_from q s (b ∷ bs) ≡ 0
unfolding end_from
end_from-here q s b bs here = cond-true _ _ _ here

end_from-nil : (q : Quoting) (s : ℕ) → end_from q s [] ≡ 0
unfolding end_from
end_from-nil q s = refl

-- the count of the bytes before an end: it is found, it is not, and it may yet be
pub ends_here : (q : Quoting) (s end : ℕ) (text : Bytes) → end < length text
    → ends q s (slice_index text end) ≡ true → end + end_from q s (drop end text) ≡ end
ends_here q s end text within here = rw (drop_more text end 0 within, end_from-here q s _ _ here) (omega arith)

pub ends_nowhere : (q : Quoting) (s end : ℕ) (text : Bytes) → length text ≤ end
    → end + end_from q s (drop end text) ≡ end
ends_nowhere q s end text beyond = rw (drop_all end text beyond, end_from-nil q s) (omega arith)

pub ends_later : (q : Quoting) (s end : ℕ) (text : Bytes) → end < length text
    → ends q s (slice_index text end) ≡ false
    → end + end_from q s (drop end text)
    ≡ end + 1 + end_from (after q (slice_index text end)) s (drop (end + 1) text)
ends_later q s end text within later =
    rw (drop_more text end 0 within, end_from-cons q s _ _ later) (omega arith)

-- the first piece is what stands before the separator, and the other pieces that are not empty come
-- from what stands behind it
abbrev SplitsFirst : Quoting → ℕ → Bytes → Type 0
SplitsFirst q s bs =
    (rest : List Bytes) × (split_from q s bs ≡ take (end_from q s bs) bs ∷ rest)
    × (filter is_nonempty rest ≡ filter is_nonempty (split_from Outside s (drop (end_from q s bs + 1) bs)))

split_first_cons : (q : Quoting) (s b : ℕ) (bs : Bytes) (ended : Bool) → ends q s b ≡ ended
    → SplitsFirst (after q b) s bs → SplitsFirst q s (b ∷ bs)
unfolding split_from
split_first_cons q s b bs true here later =
    (split_from Outside s bs, rw (end_from-here q s b bs here, here) refl, rw (end_from-here q s b bs here) refl)
split_first_cons q s b bs false here later =
    let shifted : suc (end_from (after q b) s bs) + 1 ≡ suc (end_from (after q b) s bs + 1) = omega arith in (
      later.0,
      rw (end_from-cons q s b bs here, here) (ap (λ ps. onto_first b ps) later.1),
      rw (end_from-cons q s b bs here, shifted) later.2,
    )

split_first : (q : Quoting) (s : ℕ) (bs : Bytes) → SplitsFirst q s bs
unfolding split_from end_from
split_first q s [] = ([], refl, refl)
split_first q s (b ∷ bs) = split_first_cons q s b bs (ends q s b) refl (split_first (after q b) s bs)

pieces_nil : (s : ℕ) → pieces s [] ≡ []
unfolding pieces split_from
pieces_nil s = refl

pub pieces_none : (s : ℕ) (bs : Bytes) → length bs ≡ 0 → pieces s bs ≡ []
pieces_none s [] none = pieces_nil s
pieces_none s (b ∷ bs) none = absurd (omega (arith, none))

-- an empty first piece is skipped
pub pieces_skip : (s : ℕ) (bs : Bytes) → length (first_piece s bs) ≡ 0
    → pieces s (behind_first s bs) ≡ pieces s bs
unfolding pieces
pieces_skip s bs empty =
    let first = split_first Outside s bs in
    sym (ap (λ x. filter is_nonempty x) first.1
    ∙ (cond-false _ _ _ (le-ltb 0 (length (first_piece s bs)) (omega (arith, empty))) ∙ first.2))

-- any other first piece is the first
pieces_first : (s : ℕ) (bs : Bytes) → 0 < length (first_piece s bs)
    → pieces s bs ≡ first_piece s bs ∷ pieces s (behind_first s bs)
unfolding pieces
pieces_first s bs nonempty =
    let first = split_first Outside s bs in
    ap (λ x. filter is_nonempty x) first.1
    ∙ (cond-true _ _ _ (lt-ltb 0 _ nonempty) ∙ ap (λ x. first_piece s bs ∷ x) first.2)

pub next_first : (s : ℕ) (text rest piece others : Bytes) → pieces s rest ≡ pieces s text
    → length rest ≤ length text → piece ≡ first_piece s rest → others ≡ behind_first s rest
    → length others < length rest → 0 < length piece → IsNextPiece s text piece others
next_first s text rest piece others same within before behind fewer some = record {
  pieces = sym same ∙ rw (before, behind) (pieces_first s rest (subst (λ x. 0 < length x) before some));
  fewer = omega arith;
}
