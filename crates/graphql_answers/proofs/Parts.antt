-- Parts that are written one after another.
use Rattle.std.proofs.Common.{◌≡◌, ℕ, ◌+◌, ◌<◌, List, ◌∷◌, ◌++◌, map, length, drop, get_or, codes, Result, OnOk, ap, sym, subst, ◌∙◌, append_assoc}
use Rattle.std.proofs.lemmas.List.{drop_more}
use Rattle.graphql_names.specs.Names.{Bytes}
use Rattle.graphql_json.specs.Json.{joined}
use Rattle.graphql_json.specs.Writing.{KeepsFront}
use Rattle.graphql_json.proofs.Fronts.{front_then}

-- what is yet to be written of parts, from an index on, behind what parts it from what was
abbrev pub left_of : {A : Type 0} → (A → Bytes) → Bytes → ℕ → List A → Bytes
left_of text gap index parts = joined gap (map text (drop index parts))

-- once a part is written behind what parts it from those before, the parts behind it are left
pub one_more : {A : Type 0} (text : A → Bytes) (whole o gap a b : Bytes) (i : ℕ) (xs : List A) (x : A) → i < length xs → x ≡ get_or xs i x
    → o ++ left_of text gap i xs ≡ whole → a ≡ o ++ gap → b ≡ a ++ text x → b ++ left_of text (codes ",") (i + 1) xs ≡ whole
one_more text whole o gap a b i xs x h is e f g =
    let rest = left_of text (codes ",") (i + 1) xs in
    let split : left_of text gap i xs ≡ (gap ++ text x) ++ rest = ap (λ ys. joined gap (map text ys)) (drop_more xs i x h ∙ ap (λ y. y ∷ drop (i + 1) xs) (sym is)) in
    let written : b ≡ o ++ (gap ++ text x) = g ∙ ap (λ z. z ++ text x) f ∙ append_assoc o gap (text x) in
    ap (λ z. z ++ rest) written ∙ append_assoc o (gap ++ text x) rest ∙ ap (λ z. o ++ z) (sym split) ∙ e

-- what stands in front stays there while a part is written behind what parts it from those before
pub front_more : (front o gap a b : Bytes) → KeepsFront front o → a ≡ o ++ gap → KeepsFront a b → KeepsFront front b
front_more front o gap a b h e k = front_then front o b h (front_then o a b (record { behind = gap; is = e }) k)

-- the parts of a text, one after another, of which the writing of the last may fail
module _ {A E : Type 0} (r : Result A E) where
  pub two_parts : (o x a y n : Bytes) → a ≡ o ++ x → OnOk r (n ≡ a ++ y) → OnOk r (n ≡ o ++ (x ++ y))
  two_parts o x a y n e h = subst (λ v. OnOk r (n ≡ v)) (ap (λ z. z ++ y) e ∙ append_assoc o x y) h

  pub three_parts : (o x a y b z n : Bytes) → a ≡ o ++ x → b ≡ a ++ y → OnOk r (n ≡ b ++ z) → OnOk r (n ≡ o ++ (x ++ (y ++ z)))
  three_parts o x a y b z n e f h = two_parts o x a (y ++ z) n e (two_parts a y b z n f h)

  pub four_parts : (o x a y b z d u n : Bytes) → a ≡ o ++ x → b ≡ a ++ y → d ≡ b ++ z → OnOk r (n ≡ d ++ u) → OnOk r (n ≡ o ++ (x ++ (y ++ (z ++ u))))
  four_parts o x a y b z d u n e f g h = two_parts o x a (y ++ (z ++ u)) n e (three_parts a y b z d u n f g h)

  pub five_parts : (o x a y b z d u w v n : Bytes) → a ≡ o ++ x → b ≡ a ++ y → d ≡ b ++ z → w ≡ d ++ u → OnOk r (n ≡ w ++ v) → OnOk r (n ≡ o ++ (x ++ (y ++ (z ++ (u ++ v)))))
  five_parts o x a y b z d u w v n e f g i h = two_parts o x a (y ++ (z ++ (u ++ v))) n e (four_parts a y b z d u w v n f g i h)
