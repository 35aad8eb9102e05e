-- One turn of a loop in which each row means something, and the refusals that a call hands on.
use Rattle.std.proofs.Common.{◌≡◌, ◌<◌, ◌≤◌, ◌+◌, ◌∙◌, ℕ, List, [], ◌∷◌, ◌++◌, append-nil, append_assoc, Result, Ok, Err, ap, take, length, get_or, sym, subst}
use Rattle.std.specs.Borrow.{Bor}
use Rattle.std.specs.List.{AllZip}
use Rattle.std.specs.Result.{IsErrAnd}
use Rattle.std.proofs.lemmas.List.{get_or_default, take_all, take_more}
use Rattle.graphql_text.specs.Memory.{Answers, UnlessMemory}
use Rattle.graphql_names.specs.Names.{Bytes}
use Rattle.graphql_schema_rows.specs.Rows.{IsMemory, RefusedAt}
use Rattle.graphql_schema_rows.specs.declared.row_fault.RowFault.{RowFault}

module _ {A B : Type 0} (Means : A → B → Type 0) where
  pub zip_push : (xs : List A) (ys : List B) (x : A) (y : B) → AllZip Means xs ys → Means x y → AllZip Means (xs ++ x ∷ []) (ys ++ y ∷ [])
  zip_push [] [] x y all means = (means, tt)
  zip_push [] (b ∷ ys) x y all means = absurd all
  zip_push (a ∷ xs) [] x y all means = absurd all
  zip_push (a ∷ xs) (b ∷ ys) x y all means = (all.0, zip_push xs ys x y all.1 means)

  pub described_turn : (xs : List A) (i : ℕ) (d : A) (ys new : List B) (y : B) → i < length xs → new ≡ ys ++ y ∷ []
      → AllZip Means (take i xs) ys → Means (get_or xs i d) y → AllZip Means (take (i + 1) xs) new
  described_turn xs i d ys new y inside pushed so_far means =
      subst (λ zs. AllZip Means (take (i + 1) xs) zs) (sym pushed)
      (subst (λ zs. AllZip Means zs (ys ++ y ∷ [])) (sym (take_more xs i d inside))
      (zip_push (take i xs) ys (get_or xs i d) y so_far means))

  pub described_whole : (xs : List A) (i : ℕ) (ys : List B) → length xs ≤ i → AllZip Means (take i xs) ys → AllZip Means xs ys
  described_whole xs i ys whole so_far = subst (λ zs. AllZip Means zs ys) (take_all i xs whole) so_far

-- a refusal that is handed on is one of the caller's
pub handed_on : {A : Type 0} {Q : RowFault → Type 0} {e : RowFault} (Means : A → Type 0) (P : RowFault → Type 0) (r : Result A RowFault)
    → IsErrAnd r (λ f. f ≡ e) → UnlessMemory IsMemory e (P e) → ((f : RowFault) → P f → Q f) → Answers Means Q IsMemory r
handed_on Means P (Ok x) is refused wider = absurd is
handed_on {Q = Q} {e = e} Means P (Err f) is refused wider = subst (λ g. UnlessMemory IsMemory g (Q g)) (sym is) (λ told. wider e (refused told))

-- what stands behind the end of rows
abbrev pub nowhere : Bor Bytes
nowhere = record { ref_ptr = (0, 0); now = [] }

-- the row of a turn
abbrev pub row_at : List (Bor Bytes) → ℕ → Bor Bytes
row_at rows i = get_or rows i nowhere

-- is one of the rows
pub refused_at : (Refuses : Bor Bytes → RowFault → Type 0) (rows : List (Bor Bytes)) (i : ℕ) → i < length rows
    → (e : RowFault) → Refuses (row_at rows i) e → RefusedAt Refuses rows e
refused_at Refuses rows i inside e refused = (row_at rows i, (i, inside, get_or_default rows i (row_at rows i) nowhere inside), refused)

-- ---- where a loop stands in a list that it takes apart

module _ {A : Type 0} (xs before left rest : List A) (this : A) (is : xs ≡ before ++ left) where
  -- the next item stands behind those that it passed, and is passed itself
  pub stands_behind : left ≡ this ∷ rest → xs ≡ before ++ this ∷ rest
  stands_behind next = is ∙ ap (λ ys. before ++ ys) next

  pub is_passed : left ≡ this ∷ rest → xs ≡ (before ++ this ∷ []) ++ rest
  is_passed next = stands_behind next ∙ sym (append_assoc before (this ∷ []) rest)

-- it passed all
pub all_passed : {A : Type 0} (xs before left : List A) → xs ≡ before ++ left → left ≡ [] → before ≡ xs
all_passed xs before left is none = sym (is ∙ ap (λ ys. before ++ ys) none ∙ append-nil before)
