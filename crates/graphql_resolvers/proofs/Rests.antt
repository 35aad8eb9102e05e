-- What is left of a list whose first items go to its end and are cut off.
use Rattle.std.proofs.Common.{◌≡◌, ℕ, ◌-◌, ◌≤◌, List, [], ◌++◌, drop, length, take, sym, ap, ◌∙◌}
use Rattle.std.proofs.lemmas.List.{drop_all, length-drop}
use Rattle.std.proofs.Math.Seq.{take-append_seam}

-- as many or more are left out as there are
pub all_are_left_out : {A : Type 0} (n : ℕ) (xs : List A) → length xs ≤ n → [] ≡ drop n xs
all_are_left_out n xs few = sym (drop_all n xs few)

pub rest_is : {A : Type 0} (n : ℕ) (xs : List A) → take (length xs - n) (drop n xs ++ take n xs) ≡ drop n xs
rest_is n xs = ap (λ m. take m (drop n xs ++ take n xs)) (sym (length-drop n xs)) ∙ take-append_seam (drop n xs) (take n xs)
